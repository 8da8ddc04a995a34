-- Records that are listed with other flush bits and TTLs: these make no message longer, and are laid over one record after another.
use Rattle.std.proofs.Common.{◌≡◌, ℕ, true≢false, cond, ◌+◌, ◌<◌, ◌≤◌, Bool, true, false, List, [], ◌∷◌, ◌++◌, length, map, take, drop, get_or, set, refl, ap, sym, ◌∙◌, arith, append-nil, append_assoc, length-append, length-drop}
use Rattle.std.specs.Prelude.{nat_le}
use Rattle.std.specs.Int.{to_be_bytes, w16}
use Rattle.std.proofs.lemmas.List.{length-map, length-take, map-append, drop_more, take_more, get_or_at, set_at, get_or-map, take_all, drop_all}
use Rattle.dns_record.specs.declared.record.Rr.{Rr}
use Rattle.dns_record.specs.declared.record.Question.{Question}
use Rattle.dns_record.specs.Records.{kind_of}
use Rattle.dns_message.specs.declared.message.Message.{Message}
use Rattle.dns_pointers.specs.Writing.{Offsets, Piece, written_name}
use Rattle.dns_message.specs.Writing.{written_data, written_record, written_all, written}
use Rattle.dns_message.specs.Packing.{query_with, bare_query, fits}
use Rattle.dns_message.specs.Drafting.{records_of, with_answer}
use Rattle.dns_message.proofs.Whole.{questions_of}
use Rattle.dns_message.proofs.Drafts.{records_in, size_is}
use Rattle.mdns_pack.specs.Listing.{unlisted, IsListed}
use Rattle.mdns_pack.proofs.OldWay.{IsAlike, record_long, all_alike}

-- ---- A query is as long with other flush bits and TTLs.

unlisted_alike : (names : Offsets) (at : ℕ) (rr : Rr) → IsAlike (written_record names at (unlisted rr)) (written_record names at rr)
unfolding written_record
unlisted_alike names at rr =
    let owner = written_name names at rr.owner in
    let rdata = written_data owner.names (at + length owner.bytes + 10) rr.rdata in
    record { size = record_long (kind_of rr.rdata) owner.bytes (to_be_bytes w16 (length rdata.bytes)) rdata.bytes false rr.flush 0 rr.ttl; names_are = refl }

unlisted_long : (questions : List Question) (answers : List Rr) → length (written (bare_query questions (map unlisted answers))) ≡ length (written (bare_query questions answers))
unlisted_long questions answers =
    let left : Message = bare_query questions (map unlisted answers) in
    let right : Message = bare_query questions answers in
    let place : ℕ = 12 + length (questions_of right).bytes in
    let listed = all_alike written_record unlisted unlisted_alike (questions_of right).names place (records_of right) in
    let moved : records_in left ≡ written_all written_record (questions_of right).names place (map unlisted (records_of right)) =
    ap (λ (rrs : List Rr). written_all written_record (questions_of right).names place rrs) records_same in
    omega (arith, size_is left, size_is right, ap (λ (p : Piece). length p.bytes) moved, listed.size)
  where
    none : (rrs : List Rr) → (rrs ++ []) ++ [] ≡ rrs
    none rrs = append-nil (rrs ++ []) ∙ append-nil rrs

    records_same : (map unlisted answers ++ []) ++ [] ≡ map unlisted ((answers ++ []) ++ [])
    records_same = none (map unlisted answers) ∙ ap (map unlisted) (sym (none answers))

pub alike_more : (answers listed : List Rr) (rr listing : Rr) → map unlisted answers ≡ map unlisted listed → unlisted rr ≡ unlisted listing →
    map unlisted (answers ++ rr ∷ []) ≡ map unlisted (listed ++ listing ∷ [])
alike_more answers listed rr listing alike same =
    map-append unlisted answers (rr ∷ []) ∙ (λ i. alike i ++ same i ∷ []) ∙ sym (map-append unlisted listed (listing ∷ []))

-- one more record, beside those that are listed and beside those as they are
pub listed_fits : (questions : List Question) (answers listed : List Rr) (rr listing : Rr) → map unlisted answers ≡ map unlisted listed → unlisted rr ≡ unlisted listing →
    fits (bare_query questions (answers ++ rr ∷ [])) ≡ fits (bare_query questions (listed ++ listing ∷ []))
listed_fits questions answers listed rr listing alike same =
    ap (λ (n : ℕ). nat_le n 1440)
    (sym (unlisted_long questions (answers ++ rr ∷ [])) ∙ ap (λ (rrs : List Rr). length (written (bare_query questions rrs))) (alike_more answers listed rr listing alike same) ∙ unlisted_long questions (listed ++ listing ∷ []))

-- a query of one record
pub alone_alike : (rr listing : Rr) → unlisted rr ≡ unlisted listing → length (written (bare_query [] (rr ∷ []))) ≡ length (written (bare_query [] (listing ∷ [])))
alone_alike rr listing same =
    sym (unlisted_long [] (rr ∷ [])) ∙ ap (λ (x : Rr). length (written (bare_query [] (x ∷ [])))) same ∙ unlisted_long [] (listing ∷ [])

-- ---- Listings laid over records.

pub alike_long : (answers listed : List Rr) → map unlisted answers ≡ map unlisted listed → length answers ≡ length listed
alike_long answers listed alike = sym (length-map answers unlisted) ∙ ap length alike ∙ length-map listed unlisted

module _ (listings old records : List Rr) (n : ℕ) (alike : map unlisted old ≡ map unlisted listings) (within : n < length listings) (laid : records ≡ take n listings ++ drop n old) where
  long : length old ≡ length listings
  long = alike_long old listings alike

  front : length (take n listings) ≡ n
  front = omega (arith, length-take n listings, within)

  parts : (d : Rr) → records ≡ take n listings ++ get_or old n d ∷ drop (n + 1) old
  parts d = laid ∙ ap (λ (l : List Rr). take n listings ++ l) (drop_more old n d (omega (arith, long, within)))

  pub laid_within : n < length records
  laid_within = omega (arith, ap length laid, length-append (take n listings) (drop n old), front, length-drop n old, long, within)

  pub laid_like : (x l : Rr) → x ≡ get_or records n x → l ≡ get_or listings n l → unlisted x ≡ unlisted l
  laid_like x l is of =
      ap unlisted (is ∙ ap (λ (rrs : List Rr). get_or rrs n x) (parts x) ∙ get_or_at (take n listings) _ _ x n front)
      ∙ sym (get_or-map unlisted old n x (unlisted l) (omega (arith, long, within)))
      ∙ ap (λ (rrs : List Rr). get_or rrs n (unlisted l)) alike
      ∙ get_or-map unlisted listings n l (unlisted l) within ∙ ap unlisted (sym of)

  pub laid_more : (l after : Rr) → l ≡ get_or listings n l → after ≡ l → set records n after ≡ take (n + 1) listings ++ drop (n + 1) old
  laid_more l after of is =
      ap (set records n) is ∙ ap (λ (rrs : List Rr). set rrs n l) (parts l) ∙ set_at (take n listings) _ _ l n front ∙ sym (append_assoc (take n listings) (l ∷ []) _)
      ∙ ap (λ (rrs : List Rr). rrs ++ drop (n + 1) old) (ap (λ (x : Rr). take n listings ++ x ∷ []) of ∙ sym (take_more listings n l within))

pub laid_all : (listings old records : List Rr) (n : ℕ) → map unlisted old ≡ map unlisted listings → length listings ≤ n → records ≡ take n listings ++ drop n old → records ≡ listings
laid_all listings old records n alike out laid =
    laid ∙ (λ i. take_all n listings out i ++ drop_all n old (omega (arith, alike_long old listings alike, out)) i) ∙ append-nil listings

-- ---- A query under way.

-- one more answer
pub listed_grown : (draft after : Message) (listed grown : List Rr) (rr listing : Rr) → IsListed draft listed → unlisted rr ≡ unlisted listing →
    after ≡ with_answer draft rr → grown ≡ listed ++ listing ∷ [] → IsListed after grown
listed_grown draft after listed grown rr listing h same e f = record {
  bare = e ∙ ap (λ (m : Message). with_answer m rr) h.bare ∙ sym (ap (λ (m : Message). bare_query m.questions m.answers) e);
  alike = ap (λ (m : Message). map unlisted m.answers) e ∙ alike_more draft.answers listed rr listing h.alike same ∙ sym (ap (map unlisted) f);
}

-- it fits beside what is listed where it fits beside the answers as they are
pub grown_fits : (draft : Message) (listed : List Rr) (rr listing : Rr) → IsListed draft listed → unlisted rr ≡ unlisted listing →
    fits (with_answer draft rr) ≡ fits (with_answer (bare_query draft.questions listed) listing)
grown_fits draft listed rr listing h same = ap (λ (m : Message). fits (with_answer m rr)) h.bare ∙ listed_fits draft.questions draft.answers listed rr listing h.alike same

-- the query with what is listed
pub grown_is : (draft after : Message) (listed grown : List Rr) (rr listing : Rr) → after ≡ with_answer draft rr → grown ≡ listed ++ listing ∷ [] →
    bare_query after.questions grown ≡ with_answer (bare_query draft.questions listed) listing
grown_is draft after listed grown rr listing e f = λ i. bare_query (e i).questions (f i)

-- a query of one answer
pub listed_alone : (after : Message) (grown : List Rr) (rr listing : Rr) → unlisted rr ≡ unlisted listing → after ≡ with_answer (bare_query [] []) rr → grown ≡ listing ∷ [] → IsListed after grown
listed_alone after grown rr listing same e f = listed_grown (bare_query [] []) after [] grown rr listing (record { bare = refl; alike = refl }) same e f

-- a query that is cut, with what is listed
pub cut_is : (draft : Message) (listed : List Rr) (truncated : Bool) → IsListed draft listed → record draft { answers = listed; truncated = truncated } ≡ query_with draft.questions listed truncated
cut_is draft listed truncated h = ap (λ (m : Message). record m { answers = listed; truncated = truncated }) h.bare

-- what a test keeps out
pub kept_out : {X : Type 0} (b r : Bool) (x y after : X) → r ≡ b → r ≡ false → after ≡ cond b x y → after ≡ y
kept_out true r x y after e t h = absurd (true≢false (sym e ∙ t))
kept_out false r x y after e t h = h
