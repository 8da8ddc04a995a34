-- What entries multicast, told message by message and section by section.
use Rattle.std.proofs.Common.{◌≡◌, ltb, eqb, Bool, ◌&&◌, ◌||◌, List, [], ◌∷◌, ◌++◌, refl, ap, ◌∙◌}
use Rattle.std.specs.List.{list_any, flat_map}
use Rattle.std.proofs.lemmas.List.Folds.{list_any-append}
use Rattle.dns_record.specs.declared.record.Rr.{Rr}
use Rattle.dns_record.specs.Records.{same}
use Rattle.dns_message.specs.declared.message.Message.{Message}
use Rattle.mdns_history.specs.declared.entry.Entry.{Entry}
use Rattle.mdns_history.specs.declared.entry.Sent.{Sent}
use Rattle.mdns_history.specs.Debts.{is_goodbye, is_multicast, multicasts_in, sections}
use Rattle.plain_debts.specs.Multicasts.{multicasts_by}

-- one of three lists has an element that passes a test
any_three : {X : Type 0} (p : X → Bool) (xs ys zs : List X) → list_any p (xs ++ ys ++ zs) ≡ ((list_any p xs || list_any p ys) || list_any p zs)
any_three p xs ys zs = list_any-append p (xs ++ ys) zs ∙ ap (λ b. b || list_any p zs) (list_any-append p xs ys)

-- what some make has an element that passes a test
any_flat : {X Y : Type 0} (p : Y → Bool) (f : X → List Y) (xs : List X) → list_any p (flat_map f xs) ≡ list_any (λ x. list_any p (f x)) xs
any_flat p f [] = refl
any_flat p f (x ∷ xs) = list_any-append p (f x) (flat_map f xs) ∙ ap (λ b. list_any p (f x) || b) (any_flat p f xs)

pub multicast_sections : (rr : Rr) (message : Message) →
    is_multicast rr (sections message) ≡ ((is_multicast rr message.answers || is_multicast rr message.authority) || is_multicast rr message.additional)
multicast_sections rr message = any_three (λ r. same rr r && ltb 0 r.ttl) message.answers message.authority message.additional

pub goodbye_sections : (rr : Rr) (message : Message) →
    is_goodbye rr (sections message) ≡ ((is_goodbye rr message.answers || is_goodbye rr message.authority) || is_goodbye rr message.additional)
goodbye_sections rr message = any_three (λ r. same rr r && eqb r.ttl 0) message.answers message.authority message.additional

pub multicast_told : (rr : Rr) (entry : Entry) → is_multicast rr (multicasts_in entry) ≡ list_any (λ (one : Sent). is_multicast rr (multicasts_by one)) entry.sent
unfolding multicasts_in
multicast_told rr entry = any_flat (λ r. same rr r && ltb 0 r.ttl) multicasts_by entry.sent

pub goodbye_told : (rr : Rr) (entry : Entry) → is_goodbye rr (multicasts_in entry) ≡ list_any (λ (one : Sent). is_goodbye rr (multicasts_by one)) entry.sent
unfolding multicasts_in
goodbye_told rr entry = any_flat (λ r. same rr r && eqb r.ttl 0) multicasts_by entry.sent
