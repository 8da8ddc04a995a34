-- The parts with which bytes begin, each with what follows it; BadBody where they don't begin so.
use Rattle.std.specs.Prelude.{◌≡◌, ◌⊎◌, ℕ, nat_le, ◌&&◌, List, [], ◌∷◌, length, take, drop, Option, Some, None, Result, Ok, Err, if◌then◌else◌}
use Rattle.std.specs.Int.{from_be_bytes, w16, w32}
use Rattle.std.specs.Str.{is_utf8}
use Rattle.dns_name.specs.Names.{labels_of}
use Rattle.dns_record.specs.Records.{after_name}
use Rattle.sd_ipc.specs.declared.error.FrameError.{FrameError}
use Rattle.sd_ipc.specs.declared.error.FrameError.TheVariants.{BadBody, NoMemory}

infixl 10 ◌>>=◌
-- what comes of what was read, if it was
abbrev pub ◌>>=◌ : {X Y : Type 0} → Result X FrameError → (X → Result Y FrameError) → Result Y FrameError
(Ok x) >>= f = f x
(Err e) >>= f = Err e

-- The result is the wanted one, or memory was refused.
abbrev pub IsReadAs : {X : Type 0} → Result X FrameError → Result X FrameError → Type 0
IsReadAs result wanted = (result ≡ Err NoMemory) ⊎ (result ≡ wanted)

-- a part, and the bytes behind it
abbrev pub Part : Type 0 → Type 0
Part X = Result (X × List ℕ) FrameError

-- a first byte
abbrev pub byte_part : List ℕ → Part ℕ
byte_part [] = Err BadBody
byte_part (byte ∷ rest) = Ok (byte, rest)

-- a number of two bytes, the first of them worth most
unfoldable pub u16_part : List ℕ → Part ℕ
u16_part bytes = if nat_le 2 (length bytes) then Ok (from_be_bytes w16 (take 2 bytes), drop 2 bytes) else Err BadBody

-- a number of four bytes
unfoldable pub u32_part : List ℕ → Part ℕ
u32_part bytes = if nat_le 4 (length bytes) then Ok (from_be_bytes w32 (take 4 bytes), drop 4 bytes) else Err BadBody

-- so many bytes, at most so many
unfoldable pub bytes_part : ℕ → ℕ → List ℕ → Part (List ℕ)
bytes_part most size bytes = if nat_le size most && nat_le size (length bytes) then Ok (take size bytes, drop size bytes) else Err BadBody

-- the count of bytes, at most so many, and these
unfoldable pub counted_part : ℕ → List ℕ → Part (List ℕ)
counted_part most bytes = u16_part bytes >>= λ size. bytes_part most size.0 size.1

-- a text: at most 1024 bytes of UTF-8
unfoldable pub text_part : List ℕ → Part (List ℕ)
text_part bytes = counted_part 1024 bytes >>= λ text. if is_utf8 text.0 then Ok text else Err BadBody

-- TXT data: at most 8192 bytes
unfoldable pub txt_part : List ℕ → Part (List ℕ)
txt_part bytes = counted_part 8192 bytes

-- the name of bytes that begin with one in wire form
abbrev pub named : List ℕ → Option (List ℕ) → Part (List (List ℕ))
named bytes None = Err BadBody
named bytes (Some rest) = Ok (labels_of bytes, rest)

-- a name in wire form, without pointers
unfoldable pub name_part : List ℕ → Part (List (List ℕ))
name_part bytes = named bytes (after_name bytes)

-- Nothing follows.
abbrev pub ended : List ℕ → Result (Unit {0}) FrameError
ended [] = Ok tt
ended (byte ∷ rest) = Err BadBody
