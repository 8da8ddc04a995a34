use Rattle.std.proofs.Common.{◌≡◌, ◌∙◌, ◌&&◌, ℕ, Bool, true, false, List, Some, None, if◌then◌else◌, nat_le, not, length, refl, sym, ap, subst, rules}
use Rattle.std.specs.List.{list_all}
use Rattle.std.specs.Str.{is_utf8, IsUtf8}
use Rattle.std.proofs.lemmas.Bool.{false≢true}
use Rattle.std.proofs.lemmas.Str.{is_utf8-from_IsUtf8}
use Rattle.sd_name.specs.ServiceTypes.{is_control, is_service_label}
use Rattle.mdns_words.specs.HostLabels.{is_host_text}
use Rattle.mdns_words.proofs.label.HostLabel.new.Goals as goal

-- a label of a service that is text may be a host's
host_text : (text : List ℕ) → IsUtf8 text → is_service_label text ≡ true → is_host_text text ≡ true
unfolding is_service_label
host_text text utf8 = of (nat_le 1 (length text)) (nat_le (length text) 63) (is_utf8 text) (list_all (λ b. not (is_control b)) text) (is_utf8-from_IsUtf8 text utf8)
  where
    of : (some few utf8 plain : Bool) → utf8 ≡ true → (some && few && plain) ≡ true → ((some && few) && utf8 && plain) ≡ true
    of true true true true e f = refl
    of true true true false e f = absurd (false≢true f)
    of true true false plain e f = absurd (false≢true e)
    of true false utf8 plain e f = absurd (false≢true f)
    of false few utf8 plain e f = absurd (false≢true f)

is_good : (c : goal.In_ok-label) → is_host_text c.args.text.now ≡ true
is_good c =
    let service : is_service_label c.args.text.now ≡ true = ap is_service_label (sym c.as_bytes.ensures.value) ∙ sym c.is_service_label.ensures ∙ search rules in
    host_text c.args.text.now c.utf8.text service

label_is : (c : goal.In_ok-label) → ◌≡◌ {A = List ℕ} c.in_ok-label.label c.args.text.now
label_is c = c.in_ok-label.ensures.value ∙ c.as_bytes-2.ensures.value

pub invariant_of-result : goal.invariant_of-result
invariant_of-result c = subst (λ (l : List ℕ). is_host_text l ≡ true) (sym (label_is c)) (is_good c)

pub returns : goal.returns
returns c = ap (λ (l : List ℕ). Some l) (label_is c) ∙ ap (λ (b : Bool). if b then Some c.args.text.now else None) (sym (is_good c))
