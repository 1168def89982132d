-- Two words written.
use Rattle.store.proofs.Writing.{two_words}
use Rattle.store.proofs.numbers.put_number.Goals as goal

pub returns : goal.returns
returns c = two_words c.args.words.now c.args.at c.args.v c.requires
