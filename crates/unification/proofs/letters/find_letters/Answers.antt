-- A sign or a letter more; all letters, or not.
use Rattle.std.proofs.Common.{◌≡◌, ℕ, sym, subst, arith}
use Rattle.store.proofs.Sounds.{sound_in}
use Rattle.unification.specs.Unifiers.{LettersFound}
use Rattle.unification.proofs.Lettering.{FoundBelow, found_none, found_sign, found_letter, letters_found}
use Rattle.unification.proofs.letters.find_letters.Goals as goal

pub loop-i-init : goal.loop-i-init
loop-i-init c = found_none c.args.store.now c.new-letters.result c.new-letters.ensures

pub loop-i-preserved-in_default : goal.loop-i-preserved-in_default
loop-i-preserved-in_default c = found_sign c.args.store.now c.loop-i.i c.loop-i.letters (sound_in c.args.store.now) (omega arith)
    c.loop-i.invariant
    c.in_default.field-0 _ c.in_default.ensures.2

pub loop-i-preserved : goal.loop-i-preserved
loop-i-preserved c = found_letter c.args.store.now c.loop-i.i c.loop-i.letters (sound_in c.args.store.now) (omega arith) c.loop-i.invariant
    c.in-Letter.x (omega arith) c.in-Letter.ensures.1

pub returns : goal.returns
returns c =
    let e : c.loop-i.i ≡ c.args.store.now.count = omega arith in
    subst (LettersFound c.args.store.now) (sym c.then_some.ensures) (letters_found c.args.store.now c.loop-i.letters c.all_bound.result
    (subst (λ (n : ℕ). FoundBelow c.args.store.now n c.loop-i.letters) e c.loop-i.invariant) c.all_bound.ensures)
