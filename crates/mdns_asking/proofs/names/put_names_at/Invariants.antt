use Rattle.std.proofs.Common.{◌≡◌, ℕ, Bool, ◌&&◌, true, List, [], take, get_or}
use Rattle.std.specs.List.{Contains, list_any}
use Rattle.dns_name.specs.Names.{folded_eq}
use Rattle.mdns_cache.specs.Ended.{is_among}
use Rattle.mdns_question.specs.declared.tracked.Tracked.{Tracked}
use Rattle.sd_sessions.specs.Put.{ArePutOnce, ArePutOnly}
use Rattle.mdns_asking.specs.Places.{ArePut}
use Rattle.mdns_asking.proofs.names.put_names_at.Given as goal

abbrev pub invariant-loop-place : goal.invariant-loop-place
invariant-loop-place l = record {
  kept : (name : List (List ℕ)) → is_among l.initial.names.items name ≡ true → is_among l.names.items name ≡ true;
  named : (k : ℕ) (d : Tracked) → Contains (take l.place-index l.places) k → is_among l.names.items (get_or l.questions k d).key.name ≡ true;
  only : (test : Tracked → Bool) → ArePut test l.questions [] l.places → ArePutOnly (λ name. list_any (λ one. test one && folded_eq name one.key.name) l.questions) l.initial.names.items l.names.items;
  once : ArePutOnce l.initial.names.items l.names.items;
}
