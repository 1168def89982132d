-- A text that is read token by token.
use Rattle.std.specs.Prelude.{◌≡◌, ◌+◌, length}
use Rattle.lexing.specs.declared.cursor.Cursor.{Cursor}
use Rattle.lexing.specs.Tokens.{TokenOf}

-- the next token of the same text comes
pub record Advances (old new : Cursor) : Type 0 where
  pub text : new.text.now ≡ old.text.now
  pub token : TokenOf old.text.now (old.token.start + length old.token.word.now) new.token
