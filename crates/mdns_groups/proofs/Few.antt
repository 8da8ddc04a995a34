-- A legal history has no more live groups than its sessions have operations, and the host's.
use Rattle.std.proofs.Common.{◌≡◌, ℕ, zero, suc, ◌+◌, ◌*◌, ◌<◌, ◌≤◌, ◌==◌, ◌⊎◌, inl, inr, Bool, true, false, cond, List, [], ◌∷◌, ◌++◌, map, length, length-append, Some, refl, ap, ◌∙◌, arith}
use Rattle.std.specs.List.{find, flat_map}
use Rattle.std.specs.Option.{option_map, option_map_or}
use Rattle.lists.specs.Lists.{count_up}
use Rattle.sd_call.specs.Requests.{is_register}
use Rattle.mdns_history.specs.declared.entry.Entry.{Entry}
use Rattle.mdns_history.specs.declared.operation.Operation.{Operation}
use Rattle.mdns_history.specs.InForce.{Duties}
use Rattle.mdns_history.specs.Sessions.{is_attached, attached_sessions, operations_of, operation_request, has_op, opened_count}
use Rattle.mdns_history.specs.Groups.{Group, groups}
use Rattle.mdns_history.specs.Fitting.{IsLegal}
use Rattle.mdns_asserts.proofs.Elements.{In, in_filter, in_flat_map, both_no}
use Rattle.mdns_asserts.proofs.Numbered.{HaveNumbers, length_map}
use Rattle.mdns_asserts.proofs.Distinct.{are_distinct}
use Rattle.mdns_groups.specs.Registered.{is_registration, GroupsAreFew}
use Rattle.mdns_groups.proofs.Pigeons.{AreDifferent, no_more}
use Rattle.mdns_groups.proofs.Limits.{AreLimited, are_limited}
use Rattle.mdns_groups.proofs.Changes.{registers_in}
use Rattle.mdns_groups.proofs.Owned.{are_owned}
use Rattle.mdns_groups.proofs.Groups.{holds_of, registration_attached, one_number}

-- an operation's session and number
abbrev key_of : ℕ → Operation → ℕ × ℕ
key_of session operation = (session, operation.op)

-- those of a session, of all sessions, and of a group
abbrev keys_in : List Entry → ℕ → List (ℕ × ℕ)
keys_in h session = map (key_of session) (operations_of session h)

abbrev keys : List Entry → List (ℕ × ℕ)
keys h = flat_map (keys_in h) (attached_sessions h)

abbrev group_key : Group → ℕ × ℕ
group_key group = (group.session, group.op)

many_keys : (h : List Entry) → AreLimited h → (sessions : List ℕ) → length (flat_map (keys_in h) sessions) ≤ 64 * length sessions
many_keys h limited [] = omega arith
many_keys h limited (session ∷ sessions) =
    let both : length (keys_in h session ++ flat_map (keys_in h) sessions) ≡ length (keys_in h session) + length (flat_map (keys_in h) sessions) = length-append (keys_in h session) (flat_map (keys_in h) sessions) in
    let one : length (keys_in h session) ≡ length (operations_of session h) = length_map (key_of session) (operations_of session h) in
    let few : length (operations_of session h) ≤ 64 = limited.operations session in
    let rest : length (flat_map (keys_in h) sessions) ≤ 64 * length sessions = many_keys h limited sessions in
    omega (arith, both, one, few, rest)

-- a number in a range
counted : (many first n : ℕ) → first ≤ n → n < first + many → In n (count_up first many)
counted zero first n low high = let no : ⊥ = omega (arith, low, high) in absurd no
counted (suc many) first n low high = of (n == first) refl (counted many (first + 1) n)
  where
    of : (b : Bool) → (n == first) ≡ b → (first + 1 ≤ n → n < first + 1 + many → In n (count_up (first + 1) many)) → (n ≡ first) ⊎ In n (count_up (first + 1) many)
    of true e rest = inl (grind (arith, e))
    of false e rest = inr (rest (grind (arith, low, e)) (omega (arith, high)))

-- an operation that registers is there
found_key : (session op : ℕ) (os : List Operation) → registers_in op os ≡ true → In (session, op) (map (key_of session) os)
found_key session op [] h = cc
found_key session op (o ∷ os) h = of (o.op == op) refl h (found_key session op os)
  where
    of : (b : Bool) → (o.op == op) ≡ b → option_map_or is_register (option_map (λ (operation : Operation). operation.request) (cond b (Some o) (find (has_op op) os))) false ≡ true →
        (registers_in op os ≡ true → In (session, op) (map (key_of session) os)) → In (session, op) (map (key_of session) (o ∷ os))
    of true e g rest = let same : op ≡ o.op = grind (arith, e) in inl (ap (λ n. (session, n)) same)
    of false e g rest = inr (rest g)

module _ (duties : Duties) (h : List Entry) (legal : IsLegal duties h) where
  attached_in : (session : ℕ) → is_attached session h ≡ true → In session (attached_sessions h)
  unfolding attached_sessions
  attached_in session here =
      let range : (1 ≤ session) × (session ≤ opened_count h) = (holds_of duties h legal).numbered session here in
      in_filter (λ s. is_attached s h) session (count_up 1 (opened_count h)) (counted (opened_count h) 1 session range.0 (high session range.1)) here
    where
      high : (s : ℕ) → s ≤ opened_count h → s < 1 + opened_count h
      high s l = omega (arith, l)

  registration_key : (session op : ℕ) → is_registration session op h ≡ true → In (session, op) (keys h)
  unfolding operation_request
  registration_key session op live =
      in_flat_map (keys_in h) session (session, op) (attached_sessions h) (attached_in session (registration_attached duties h legal session op live)) (found_key session op (operations_of session h) live)

  keyed : (group : Group) → In group (groups h) → In (group_key group) ((0, 0) ∷ keys h)
  keyed group m = of (group.id == 0) refl
    where
      of : (b : Bool) → (group.id == 0) ≡ b → In (group_key group) ((0, 0) ∷ keys h)
      of true e =
          let zero_id : group.id ≡ 0 = grind (arith, e) in
          let host : (group.session ≡ 0) × (group.op ≡ 0) = (are_owned duties h legal).host group m zero_id in
          inl (ap (λ s. (s, group.op)) host.0 ∙ ap (λ o. (0, o)) host.1)
      of false e =
          inr (registration_key group.session group.op ((are_owned duties h legal).owned group m (λ same. let no : (group.id == 0) ≡ true = grind (arith, same) in both_no (group.id == 0) no e)))

different : (gs : List Group) → HaveNumbers gs → ((a b : Group) → In a gs → In b gs → a.session ≡ b.session → a.op ≡ b.op → a.id ≡ b.id) → AreDifferent group_key gs
different [] numbers same = tt
different (g ∷ gs) numbers same = (
  λ other m e. numbers.0 other m (same other g (inr m) (inl refl) (ap (λ k. k.0) e) (ap (λ k. k.1) e)),
  different gs numbers.1 (λ a b m n. same a b (inr m) (inr n)),
)

pub groups_are_few : GroupsAreFew
groups_are_few duties h legal =
    let limited : AreLimited h = are_limited duties h legal in
    let fit : length (groups h) ≤ suc (length (keys h)) =
    no_more group_key (groups h) ((0, 0) ∷ keys h) (different (groups h) (are_distinct duties h legal).numbers (one_number duties h legal)) (keyed duties h legal) in
    let many : length (keys h) ≤ 64 * length (attached_sessions h) = many_keys h limited (attached_sessions h) in
    omega (arith, fit, many, limited.sessions)
