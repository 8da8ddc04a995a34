-- The words of the command line.
use Rattle.std.proofs.lemmas.List.{append-nil}
use Rattle.std.proofs.lemmas.Slice.Eq.{bytes_eq-Decides}
use Rattle.std.specs.Prelude.{codes, take}
use Rattle.std.specs.Str.{bytes_eq}
use Rattle.std.specs.Io.KnownBytes.{Appends}
use Rattle.number_text.specs.Digits.{◌>>=◌}
use Rattle.mdns_server.specs.Serving.{plan_of}
use Rattle.std.proofs.Common.{◌≡◌, ◌≢◌, ℕ, length, List, [], ◌∷◌, ◌++◌, Option, None, Some, Bool, true, false, if◌then◌else◌, Result, Ok, Err, String, Global, map, drop, refl, sym, ap, ◌∙◌, arith}
use Rattle.std.specs.String.{string_bytes}
use Rattle.std.specs.Vec.Iter.{into_iter_items, into_iter_len, into_iter_steps}
use Rattle.std.specs.declared.vec.IntoIter.{IntoIter}
use Rattle.std.specs.declared.io.Error.{Error}
use Rattle.mdns_outside.specs.declared.plan.ServePlan.{ServePlan}
use Rattle.mdns_words.specs.Options.{texts}
use Rattle.mdns_command.specs.Words.{count_of, words_of, told, script_words, names_script, behind_serve, serve_plan, gen_number, AreScript, AreGen, AskFor, AreNoCommand, LackMemory}

abbrev Words : Type 0
Words = IntoIter (String Global) Global

nothing : (words : List (String Global)) → length words ≡ 0 → words ≡ []
nothing [] none = refl
nothing (word ∷ words) none = absurd (omega arith)

ended : (words : Words) → into_iter_len words ≡ 0 → into_iter_items words ≡ []
ended words none = nothing (into_iter_items words) (sym words.rest.ok.0 ∙ none)

-- the words behind the program's name
pub behind : (a b : Words) (program : Option (String Global)) → into_iter_steps a program b → words_of a ≡ texts (into_iter_items b)
behind a b (Some program) first = ap (λ (l : List (String Global)). map (λ w. string_bytes w) (drop 1 l)) first.0
behind a b None first = ap (λ (l : List (String Global)). map (λ w. string_bytes w) (drop 1 l)) (ended a first.0) ∙ ap (λ (l : List (String Global)). map (λ w. string_bytes w) l) (sym (ended b first.1))

-- what is no command is none of the commands
pub no_script : (args : Result Words Error) → AreNoCommand args → AreScript args → ⊥
no_script (Ok args) none is = none.0 (let e : words_of args ≡ script_words = cc in e)
no_script (Err error) none is = let e : None ≡ Some script_words = is in cc

pub no_server : (args : Result Words Error) (plan : ServePlan) → AreNoCommand args → AskFor plan args → ⊥
no_server (Ok args) plan none is = let e : None ≡ Some plan = sym none.1 ∙ is in cc
no_server (Err error) plan none is = let e : None ≡ Some plan = is in cc

pub no_gen : (args : Result Words Error) (n : ℕ) → AreNoCommand args → AreGen n args → ⊥
no_gen (Ok args) n none is = let e : None ≡ Some n = sym none.2 ∙ is in cc
no_gen (Err error) n none is = let e : None ≡ Some n = is in cc

-- the number that words ask for is that of the script
pub asked_number : (args : Result Words Error) (words : List (List ℕ)) (n : ℕ) → told args ≡ Some words → AreGen n args → gen_number words ≡ Some n
asked_number (Ok args) words n is gen = let e : words_of args ≡ words = cc in ap gen_number (sym e) ∙ gen
asked_number (Err error) words n is gen = absurd (let e : None ≡ Some words = is in cc)

-- words that ask for a script that is made of a number ask for no other
gen_serves_none : (words : List (List ℕ)) (n : ℕ) → gen_number words ≡ Some n → serve_plan words ≡ None
gen_serves_none [] n is = refl
gen_serves_none (word ∷ []) n is = cc
gen_serves_none (word ∷ digits ∷ []) n is = of (bytes_eq word (codes "gen")) refl is
  where
    of : (b : Bool) → bytes_eq word (codes "gen") ≡ b → (if b then count_of digits else None) ≡ Some n → serve_plan (word ∷ digits ∷ []) ≡ None
    of true e h = let same : word ≡ codes "gen" = (bytes_eq-Decides word (codes "gen")).0 e in ap (λ (w : List ℕ). serve_plan (w ∷ digits ∷ [])) same
    of false e h = cc
gen_serves_none (word ∷ digits ∷ other ∷ words) n is = cc

pub gen_no_server : (args : Result Words Error) (words : List (List ℕ)) (n : ℕ) (plan : ServePlan) → told args ≡ Some words → gen_number words ≡ Some n → AskFor plan args → ⊥
gen_no_server (Ok args) words n plan is gen asks = let e : words_of args ≡ words = cc in
    let none : None ≡ Some plan = sym (gen_serves_none words n gen) ∙ ap serve_plan (sym e) ∙ asks in cc
gen_no_server (Err error) words n plan is gen asks = let e : None ≡ Some words = is in cc

pub no_lack : (args : Result Words Error) (words : List (List ℕ)) → told args ≡ Some words → LackMemory args → ⊥
no_lack (Ok args) words is lacks = lacks
no_lack (Err error) words is lacks = cc

-- words that are none of the commands are no command
pub no_command : (args : Result Words Error) (words : List (List ℕ)) → told args ≡ Some words → words ≢ script_words → serve_plan words ≡ None → gen_number words ≡ None → AreNoCommand args
no_command (Ok args) words is other none no_number = let e : words_of args ≡ words = cc in (λ s. other (sym e ∙ s), ap serve_plan e ∙ none, ap gen_number e ∙ no_number)
no_command (Err error) words is other none no_number = absurd (let e : None ≡ Some words = is in cc)

-- words that are no command, behind `serve`, ask for nothing
pub no_plan : (args : Result Words Error) (words behind : List (List ℕ)) → AreNoCommand args → told args ≡ Some words → behind_serve words ≡ Some behind → plan_of behind ≡ None
no_plan (Ok args) words behind none is first = let e : words_of args ≡ words = cc in sym (ap (λ b. b >>= λ r. plan_of r) first) ∙ ap serve_plan (sym e) ∙ none.1
no_plan (Err error) words behind none is first = absurd (let e : None ≡ Some words = is in cc)

same_first : {x y : List ℕ} → x ∷ [] ≡ y ∷ [] → x ≡ y
same_first e = cc

pub script_named : (words : List (List ℕ)) → (names_script words ≡ true → words ≡ script_words) × (words ≡ script_words → names_script words ≡ true)
script_named [] = (λ yes. cc, λ same. cc)
script_named (word ∷ []) = let test = bytes_eq-Decides word (codes "script") in (λ yes. ap (λ (l : List ℕ). l ∷ []) (test.0 yes), λ same. test.1 (same_first same))
script_named (word ∷ next ∷ words) = (λ yes. cc, λ same. cc)

-- a sink that was given nothing holds a beginning of any line
pub unput : (line : List ℕ) (old : Option (List ℕ)) → (n : ℕ) × Appends old old (take n line)
unput line None = (0, tt)
unput line (Some held) = (0, sym (append-nil held))
