-- Too few words; what is found of the terms; or what judging found of the book. Each comparison leaves the work words ready for the next.
use Rattle.std.proofs.Common.{refl}
use Rattle.std.proofs.lemmas.Grind.{merely}
use Rattle.engine.proofs.Keeping.{ample_still}
use Rattle.equal.proofs.Promised.{told_small, told_other, told_rows}
use Rattle.equal.proofs.Recalling.{settled_again, settles_again, refused_again, told_on}
use Rattle.equal.proofs.Serving.{serves_for}
use Rattle.equal.proofs.session.Session.tell.Goals as goal

pub returns-then-too_few_with_terms-clause-told : goal.returns-then-too_few_with_terms-clause-told
returns-then-too_few_with_terms-clause-told c s h w on = told_on on
    (told_small c.args.self.now.book.now c.args.self.now.ways.now c.args.one.now c.args.other.now c.args.self.now.lent
    (c.if-too_few_with_terms.ensures.holds refl))

pub compare-requires : goal.compare-requires
compare-requires c = (settled_again c.args.self.now.found c.in-Settles.is).serves

pub invariant_of-self : goal.invariant_of-self
invariant_of-self c =
    let known = settled_again c.args.self.now.found c.in-Settles.is in
    let serves = c.compare.ensures.serves in
    record {
      found = merely (record {
        book = known.book;
        ways = known.ways;
        serves = serves_for serves refl;
        ample = ample_still serves.idle known.ample;
      });
    }

pub returns-in-Settles-clause-told : goal.returns-in-Settles-clause-told
returns-in-Settles-clause-told c s h w on =
    let known = settled_again c.args.self.now.found c.in-Settles.is in
    told_on on (told_rows c.args.self.now.book.now c.args.self.now.ways.now c.args.one.now c.args.other.now c.args.self.now.lent
    (c.if-too_few_with_terms.ensures.fails refl) c.in-Settles.comparer.settled.rules.book known.book (settles_again known) known.ample
    c.compare.ensures.result)

pub returns-in-Refused-clause-told : goal.returns-in-Refused-clause-told
returns-in-Refused-clause-told c s h w on = told_on on
    (told_other c.args.self.now.book.now c.args.self.now.ways.now c.args.one.now c.args.other.now c.args.self.now.lent
    (c.if-too_few_with_terms.ensures.fails refl) c.in-Refused.judged (refused_again c.args.self.now.found c.in-Refused.is)
    c.not_settled.result c.not_settled.ensures)
