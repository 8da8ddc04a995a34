-- What holds where pairs are not refused.
use Rattle.std.proofs.Common.{◌≡◌, ℕ, ◌<◌, ◌≤◌, ◌++◌, Bool, true, false, not, cond, List, ◌∙◌, length, drop, get_or, leb, refl, ap, sym, Option, Some, None, append-nil}
use Rattle.std.proofs.lemmas.Bool.{leb-true}
use Rattle.std.proofs.lemmas.List.{drop_all}
use Rattle.std.proofs.lemmas.List.Recursion.{and_at}
use Rattle.std.proofs.lemmas.List.Folds.{list_all-map}
use Rattle.std.specs.List.{list_all}
use Rattle.txt_record.specs.declared.pair.Pair.{Pair}
use Rattle.txt_record.specs.declared.error.TxtError.TheVariants.{BadKey, LongEntry, LongTxt}
use Rattle.txt_record.specs.Strings.{txt_data}
use Rattle.txt_record.specs.Pairs.{refusal, is_key, is_entry, entry_of, entries_of, keys_of, pairs_refusal}

passes : (a b c : Bool) → None ≡ cond (not a) (Some BadKey) (cond (not b) (Some LongEntry) (cond (not c) (Some LongTxt) None)) → (b ≡ true) × (c ≡ true)
passes true true true h = (refl, refl)
passes true true false h = cc
passes true false c h = cc
passes false b c h = cc

-- each entry is short, and so is the data
pub entries_pass : (keys entries strings : List (List ℕ)) → None ≡ refusal keys entries strings → list_all is_entry entries ≡ true
entries_pass keys entries strings h = (passes (list_all is_key keys) (list_all is_entry entries) (leb (length (txt_data strings)) 8192) h).0

pub data_passes : (keys entries strings : List (List ℕ)) → None ≡ refusal keys entries strings → length (txt_data strings) ≤ 8192
data_passes keys entries strings h = leb-true (length (txt_data strings)) 8192 (passes (list_all is_key keys) (list_all is_entry entries) (leb (length (txt_data strings)) 8192) h).1

-- the entry of one of the pairs
pub entry_fits : (pairs : List Pair) (i : ℕ) (pair : Pair) (key : List ℕ) (value : Option (List ℕ)) → None ≡ pairs_refusal pairs → i < length pairs → pair ≡ get_or pairs i pair → key ≡ pair.key → value ≡ pair.value → length (entry_of key value) ≤ 255
entry_fits pairs i pair key value h within at k v =
    let all : list_all (λ (p : Pair). is_entry (entry_of p.key p.value)) pairs ≡ true =
    sym (list_all-map is_entry (λ (p : Pair). entry_of p.key p.value) pairs) ∙ entries_pass (keys_of pairs) (entries_of pairs) (entries_of pairs) h in
    let this = and_at (list_all (λ (p : Pair). is_entry (entry_of p.key p.value))) (λ (p : Pair). is_entry (entry_of p.key p.value)) refl (λ _ _. refl) pairs i pair within all in
    rw (k, v) (leb-true (length (entry_of pair.key pair.value)) 255 (ap (λ (p : Pair). is_entry (entry_of p.key p.value)) at ∙ this))

-- what was written once no pair is left
pub written_all : (bytes : List ℕ) (pairs : List Pair) (i : ℕ) → bytes ++ txt_data (entries_of (drop i pairs)) ≡ txt_data (entries_of pairs) → length pairs ≤ i → bytes ≡ txt_data (entries_of pairs)
written_all bytes pairs i e end =
    sym (append-nil bytes) ∙ ap (λ (rest : List Pair). bytes ++ txt_data (entries_of rest)) (sym (drop_all i pairs end)) ∙ e
