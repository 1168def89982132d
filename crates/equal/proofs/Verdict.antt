-- What the checks of a book whose rules go down come to.
use Rattle.std.proofs.Common.{ℕ, ◌<◌, Bool, true, false, ◌⊎◌, List, length, refl, inl, inr}
use Rattle.rewriting.specs.Rules.{Steps}
use Rattle.rewriting.specs.Answers.{Tells}
use Rattle.rewriting.specs.Books.{OneEnd, NoLess}
use Rattle.books.specs.declared.row.Book.{Book}
use Rattle.books.specs.Books.{told, SoundBook, equation_in}
use Rattle.books.proofs.Bookish.{is_equation}
use Rattle.equal.specs.Judging.{LargeSide, Growing, RulesSay, by_ways}
use Rattle.ways.specs.Showing.{Shown}

-- a side of an equation from which steps lead to a large term
pub side_large : (b : Book) → SoundBook b → (n i : ℕ) → i < length (told b).eqs → LargeSide b n i → Growing (told b) n
side_large b sound n i low (u, steps, large) = at steps
  where
    at : Steps (told b).rules (equation_in b i).left u ⊎ Steps (told b).rules (equation_in b i).right u → Growing (told b) n
    at (inl h) = ((equation_in b i).left, u, inr (i, equation_in b i, is_equation b sound i low, inl refl), h, large)
    at (inr h) = ((equation_in b i).right, u, inr (i, equation_in b i, is_equation b sound i low, inr refl), h, large)

-- the ways show the rules, or not
pub said_by_ways : (b : Book) (h : List ℕ) (n : ℕ) → OneEnd (told b) → NoLess (told b) → (x : Bool) → Tells x (Shown b h) →
    RulesSay b h n (by_ways x)
said_by_ways b h n one less true t = (one, less, t.holds refl)
said_by_ways b h n one less false t = (one, less, t.fails refl)
