-- Bytes that are text.
use Rattle.std.proofs.Common.{◌≡◌, Bool, true, false, cond, Some, None, List, ℕ, ap, refl}
use Rattle.std.specs.Str.{is_utf8, IsUtf8}
use Rattle.std.proofs.lemmas.Str.{is_utf8-from_IsUtf8, IsUtf8-from_is_utf8}
use Rattle.mdns_script.specs.Tokens.{text_of}

-- bytes that aren't UTF-8
pub no_text : (bytes : List ℕ) → (IsUtf8 bytes → ⊥) → text_of bytes ≡ None
no_text bytes none = at_test (is_utf8 bytes) refl
  where
    at_test : (b : Bool) → is_utf8 bytes ≡ b → cond b (Some bytes) None ≡ None
    at_test true e = absurd (none (IsUtf8-from_is_utf8 bytes e))
    at_test false e = refl

-- bytes that are
pub some_text : (bytes : List ℕ) → IsUtf8 bytes → text_of bytes ≡ Some bytes
some_text bytes utf8 = ap (λ (b : Bool). cond b (Some bytes) None) (is_utf8-from_IsUtf8 bytes utf8)
