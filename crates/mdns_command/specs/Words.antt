-- What the words of the command line ask for, as they were read.
use Rattle.std.specs.Prelude.{◌≡◌, ◌≢◌, ℕ, nat_le, ◌&&◌, List, [], ◌∷◌, map, drop, codes, Result, Ok, Err, Option, Some, None, Bool, false, String, if◌then◌else◌}
use Rattle.std.specs.Str.{bytes_eq}
use Rattle.std.specs.Global.{Global}
use Rattle.std.specs.String.{string_bytes}
use Rattle.std.specs.Vec.Iter.{into_iter_items}
use Rattle.std.specs.declared.vec.IntoIter.{IntoIter}
use Rattle.std.specs.IoError.{error_kind}
use Rattle.std.specs.declared.io.Error.{Error}
use Rattle.std.specs.declared.io.ErrorKind.TheVariants.{OutOfMemory}
use Rattle.number_text.specs.Digits.{◌>>=◌, decimal_of}
use Rattle.mdns_outside.specs.declared.plan.ServePlan.{ServePlan}
use Rattle.mdns_server.specs.Serving.{plan_of}

-- the words behind the program's own name
abbrev pub words_of : IntoIter (String Global) Global → List (List ℕ)
words_of args = map (λ word. string_bytes word) (drop 1 (into_iter_items args))

-- those words, where they could be read
abbrev pub told : Result (IntoIter (String Global) Global) Error → Option (List (List ℕ))
told (Ok args) = Some (words_of args)
told (Err error) = None

-- the words of a script
abbrev pub script_words : List (List ℕ)
script_words = codes "script" ∷ []

-- whether words are those
abbrev pub names_script : List (List ℕ) → Bool
names_script (word ∷ []) = bytes_eq word (codes "script")
names_script _ = false

-- the words behind `serve`
abbrev pub behind_serve : List (List ℕ) → Option (List (List ℕ))
behind_serve [] = None
behind_serve (word ∷ words) = if bytes_eq word (codes "serve") then Some words else None

-- what a server is asked to do by words that begin with `serve`
abbrev pub serve_plan : List (List ℕ) → Option ServePlan
serve_plan words = behind_serve words >>= λ behind. plan_of behind

-- a number from 1 to 200, in decimal digits without a sign or a leading zero
abbrev pub count_of : List ℕ → Option ℕ
count_of digits = do
  n ← decimal_of digits
  if nat_le 1 n && nat_le n 200 then Some n else None

-- the number behind `gen`, where it is the one further word
abbrev pub gen_number : List (List ℕ) → Option ℕ
gen_number (word ∷ digits ∷ []) = if bytes_eq word (codes "gen") then count_of digits else None
gen_number _ = None

-- The words are those of a script.
abbrev pub AreScript : Result (IntoIter (String Global) Global) Error → Type 0
AreScript args = told args ≡ Some script_words

-- The words ask for a server with this plan.
abbrev pub AskFor : ServePlan → Result (IntoIter (String Global) Global) Error → Type 0
AskFor plan args = (told args >>= λ words. serve_plan words) ≡ Some plan

-- The words ask for the script that is made of this number, from 1 to 200.
abbrev pub AreGen : ℕ → Result (IntoIter (String Global) Global) Error → Type 0
AreGen n args = (told args >>= λ words. gen_number words) ≡ Some n

-- The words are none of these, or couldn't be read: one of them is no text.
abbrev pub AreNoCommand : Result (IntoIter (String Global) Global) Error → Type 0
AreNoCommand (Ok args) = (words_of args ≢ script_words) × (serve_plan (words_of args) ≡ None) × (gen_number (words_of args) ≡ None)
AreNoCommand (Err error) = error_kind error ≢ OutOfMemory

-- Memory was refused when the words were read.
abbrev pub LackMemory : Result (IntoIter (String Global) Global) Error → Type 0
LackMemory (Ok args) = ⊥
LackMemory (Err error) = error_kind error ≡ OutOfMemory
