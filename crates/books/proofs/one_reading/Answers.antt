use Rattle.books.proofs.Unique.{one_reading_lem}
use Rattle.books.proofs.one_reading.Goals as goal

pub returns : goal.returns
returns c = one_reading_lem
