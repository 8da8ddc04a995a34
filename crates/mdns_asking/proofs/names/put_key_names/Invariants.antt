use Rattle.std.proofs.Common.{◌≡◌, ℕ, true, List, take}
use Rattle.std.specs.List.{AllByRecursion}
use Rattle.dns_record.specs.declared.record.Key.{Key}
use Rattle.mdns_cache.specs.Ended.{is_among}
use Rattle.sd_sessions.specs.Put.{is_name_in, ArePutOnce, ArePutOnly}
use Rattle.mdns_asking.proofs.names.put_key_names.Given as goal

abbrev pub invariant-loop-key : goal.invariant-loop-key
invariant-loop-key l = record {
  kept : (name : List (List ℕ)) → is_among l.initial.names.items name ≡ true → is_among l.names.items name ≡ true;
  named : AllByRecursion (λ (key : Key). is_among l.names.items key.name ≡ true) (take l.key-index l.keys);
  only : ArePutOnly (is_name_in (take l.key-index l.keys)) l.initial.names.items l.names.items;
  once : ArePutOnce l.initial.names.items l.names.items;
}
