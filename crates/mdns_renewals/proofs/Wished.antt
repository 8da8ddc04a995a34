-- A call that registers is one that registers something.
use Rattle.std.proofs.Common.{◌≡◌, ℕ, ◌+◌, List, map, Bool, true, false, cond, refl, ap, sym, ◌∙◌, Option, Some, None}
use Rattle.sd_call.specs.declared.request.Request.{Request}
use Rattle.sd_call.specs.declared.request.Request.TheVariants as request
use Rattle.sd_call.specs.Requests.{is_register}
use Rattle.mdns_history.specs.Sessions.{Accepted}
use Rattle.mdns_history.specs.Groups.{Group, Registration, registration_from, numbered_name, group_of}
use Rattle.mdns_probe.specs.Claiming.{begun}
use Rattle.mdns_probe.specs.Naming.{unique_named, shared_named}
use Rattle.mdns_probe.specs.Kept.{Kept, name_of}
use Rattle.mdns_renewals.specs.Occasions.{Occasion, wait_told, registration_told, txt_asked, begun_kept}
use Rattle.mdns_renewals.specs.Wishes.{registering}

pub registers_some : (o : Option Accepted) (c : Accepted) → Some c ≡ registering o → o ≡ Some c
registers_some None c e = cc
registers_some (Some call) c e = of (is_register call.request) e
  where
    of : (b : Bool) → Some c ≡ cond b (Some call) None → Some call ≡ Some c
    of true h = sym h
    of false h = cc

pub registers_none : (o : Option Accepted) → None ≡ registering o → registration_told o ≡ None
registers_none None e = refl
registers_none (Some call) e = of call.request e
  where
    of : (r : Request) → ◌≡◌ {A = Option Accepted} None (cond (is_register r) (Some call) None) → registration_from call.session call.op r ≡ None
    of (request.Register label regtype port norename txt) h = cc
    of (request.Query kind name) h = refl
    of (request.Browse regtype) h = refl
    of (request.Resolve label regtype) h = refl
    of (request.Address families name) h = refl
    of (request.Update txt) h = refl
    of request.Stop h = refl

-- a group as it begins, by its registration
pub granted_is : (at : Occasion) (registered : ℕ) (kept : List Kept) (r : Registration) (naming : Group) (wait : ℕ) (txt : List ℕ) (one : Kept) →
    one ≡ record { group = naming; number = naming.first; claim = begun at.moment wait naming.id (unique_named at.config at.host naming (numbered_name naming naming.first) txt) (shared_named naming (numbered_name naming naming.first)) } →
    naming ≡ group_of (registered + 1) (map name_of kept) r → wait ≡ wait_told at naming.id → txt ≡ txt_asked at.told.call → one ≡ begun_kept registered kept at r
granted_is at registered kept r naming wait txt one is same waits given =
    is
    ∙ (λ i. record { group = naming; number = naming.first; claim = begun at.moment (waits i) naming.id (unique_named at.config at.host naming (numbered_name naming naming.first) (given i)) (shared_named naming (numbered_name naming naming.first)) })
    ∙ ap (λ (group : Group). record {
      group = group;
      number = group.first;
      claim = begun at.moment (wait_told at group.id) group.id (unique_named at.config at.host group (numbered_name group group.first) (txt_asked at.told.call)) (shared_named group (numbered_name group group.first));
    }) same
