-- What the last entry of a history sends, told by the history with the entry and the one before it.
use Rattle.std.proofs.Common.{◌≡◌, ℕ, List, [], ◌∷◌, length, map, refl, ap, sym, ◌∙◌, arith}
use Rattle.std.specs.Prelude.{filter}
use Rattle.dns_record.specs.declared.record.Rr.{Rr}
use Rattle.dns_message.specs.Packing.{pack_reply}
use Rattle.mdns_history.specs.declared.entry.Sent.{Sent}
use Rattle.mdns_history.specs.declared.entry.Entry.{Entry}
use Rattle.mdns_history.specs.InForce.{Duties}
use Rattle.mdns_history.specs.Sending.{is_free, sent_goodbyes, sent_multicasts, wanted_by}
use Rattle.mdns_pack.proofs.Replies.{replies_for}
use Rattle.plain_sending.specs.Ticked.{goodbyes_in, multicasts_in, of_last}

none : (f : Entry → List Entry → List Sent) (history : List Entry) → length history ≡ 0 → [] ≡ of_last f history
none f [] h = refl
none f (entry ∷ past) h = absurd (omega arith)

pub multicasts_none : (duties : Duties) (history : List Entry) → length history ≡ 0 → of_last (sent_multicasts duties) history ≡ []
multicasts_none duties history h = sym (none (sent_multicasts duties) history h)

pub multicasts_last : (duties : Duties) (history : List Entry) (tick : Entry) (past : List Entry) → history ≡ tick ∷ past →
    of_last (sent_multicasts duties) history ≡ multicasts_in duties history past tick.moment
multicasts_last duties history tick past e = ap (of_last (sent_multicasts duties)) e ∙ ap (λ (h : List Entry). multicasts_in duties h past tick.moment) (sym e)

pub goodbyes_none : (history : List Entry) → length history ≡ 0 → of_last sent_goodbyes history ≡ []
goodbyes_none history h = sym (none sent_goodbyes history h)

pub goodbyes_last : (history : List Entry) (entry : Entry) (past : List Entry) → history ≡ entry ∷ past → of_last sent_goodbyes history ≡ goodbyes_in history past
unfolding sent_goodbyes
goodbyes_last history entry past e = ap (of_last sent_goodbyes) e ∙ ap (λ (h : List Entry). goodbyes_in h past) (sym e)

-- answers, each with what it wants
abbrev pub wantings_for : List Rr → List Entry → ℕ → List Rr → List (Rr × List Rr)
wantings_for own past moment answers = map {B = Rr × List Rr} (λ (rr : Rr). (rr, filter (is_free past moment) (wanted_by own rr.rdata))) answers

-- the replies with them
pub packed_wantings : (own : List Rr) (past : List Entry) (moment : ℕ) (answers : List Rr) (wantings : List (Rr × List Rr)) → wantings ≡ wantings_for own past moment answers →
    pack_reply (map (λ (wanting : Rr × List Rr). wanting.0) wantings) (map (λ (wanting : Rr × List Rr). wanting.1) wantings)
    ≡ pack_reply answers (map (λ (rr : Rr). filter (is_free past moment) (wanted_by own rr.rdata)) answers)
packed_wantings own past moment answers wantings e =
    ap (λ (l : List (Rr × List Rr)). pack_reply (map (λ (wanting : Rr × List Rr). wanting.0) l) (map (λ (wanting : Rr × List Rr). wanting.1) l)) e
    ∙ replies_for (λ (rr : Rr). filter (is_free past moment) (wanted_by own rr.rdata)) answers
