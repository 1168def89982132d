-- Where tokens stand in a text, and what they hold of it.
use Rattle.std.specs.Prelude.{◌≡◌, ℕ, ◌+◌, ◌<◌, ◌≤◌, Bool, cond, ◌&&◌, ◌||◌, List, length, take, drop, ◌==◌, ◌≢◌}
use Rattle.std.specs.Prelude.{Option as Maybe, None, Some, false}
use Rattle.std.specs.Char.{is_ascii_digit, is_ascii_alphabetic}
use Rattle.lexing.specs.declared.lexer.Kind.{Kind}
use Rattle.lexing.specs.declared.lexer.Kind.TheVariants.{Name, Open, Close, Comma, Slash, Equals, Arrow, Odd, End}
use Rattle.lexing.specs.declared.lexer.Token.{Token}

-- letters, digits, _ and '
abbrev pub nameByte : ℕ → Bool
nameByte b = (is_ascii_alphabetic b || is_ascii_digit b) || (b == 95 || b == 39)

-- the byte that comes next, if one does, is >
abbrev pub arrowhead : Maybe ℕ → Bool
arrowhead None = false
arrowhead (Some b) = b == 62

-- the kind of the token that begins with the byte a, which b follows, or nothing: ( ) , / = -> or a name
abbrev pub kind : ℕ → Maybe ℕ → Kind
kind a b =
    cond (a == 40) Open (cond (a == 41) Close (cond (a == 44) Comma (cond (a == 47) Slash (cond (a == 61) Equals
    (cond (a == 45 && arrowhead b) Arrow (cond (nameByte a) Name Odd))))))

-- a token of the kind stands from start up to end in a text of n bytes: it is empty at the end of the text, and nowhere else
pub record Extent (n start : ℕ) (k : Kind) (end : ℕ) : Type 0 where
  pub within : end ≤ n
  pub last : k ≡ End → start ≡ n
  pub some : (k ≢ End) → start < end
  pub order : start ≤ end

-- a token at or after the byte from: its word stands at its start in the text, and is empty only at the text's end
pub record TokenOf (text : List ℕ) (from : ℕ) (t : Token) : Type 0 where
  pub after : from ≤ length text → from ≤ t.start
  pub word : t.word.now ≡ take (length t.word.now) (drop t.start text)
  pub within : t.start + length t.word.now ≤ length text
  pub last : t.kind ≡ End → t.start ≡ length text
  pub some : (t.kind ≢ End) → 0 < length t.word.now
