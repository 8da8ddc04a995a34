-- What an air was handed, piece after piece.
use Rattle.std.proofs.Common.{◌≡◌, ◌∙◌, inl, inr, List, [], ◌∷◌, ◌++◌, refl, ap, sym, Option, map}
use Rattle.std.proofs.lemmas.List.{append-nil, append_assoc}
use Rattle.mdns_outside.specs.Parts.{Handed}
use Rattle.mdns_serve.specs.Packets.{IsPart, HandsSome}

module _ {X : Type 0} where
  part_none : (whole : List X) → IsPart [] whole
  part_none [] = refl
  part_none (x ∷ whole) = inl (part_none whole)

  pub part_append : (part more whole wider : List X) → IsPart part whole → IsPart more wider → IsPart (part ++ more) (whole ++ wider)
  part_append part more [] wider is is_more = rw is is_more
  part_append part more (x ∷ whole) wider (inl is) is_more = inl (part_append part more whole wider is is_more)
  part_append part more (x ∷ whole) wider (inr is) is_more = inr (is.0 ++ more, ap (λ p. p ++ more) is.1, part_append is.0 more whole wider is.2 is_more)

pub map-append_one : {X Y : Type 0} (f : X → Y) (xs : List X) (x : X) → map f (xs ++ x ∷ []) ≡ map f xs ++ f x ∷ []
map-append_one f [] x = refl
map-append_one f (y ∷ xs) x = ap (λ l. f y ∷ l) (map-append_one f xs x)

-- nothing was handed over
pub hands_none : (old : Option (List Handed)) → HandsSome old old []
hands_none old after told = (after, told, ([], sym (append-nil after), refl))

-- these, and then those
pub hands_append : (a b c : Option (List Handed)) (packets more : List Handed) → HandsSome a b packets → HandsSome b c more → HandsSome a c (packets ++ more)
hands_append a b c packets more first second after told =
    let late = second after told in
    let early = first late.0 late.1 in (
      early.0,
      early.1,
      (early.2.0 ++ late.2.0, late.2.1 ∙ ap (λ l. l ++ late.2.0) early.2.1 ∙ append_assoc early.0 early.2.0 late.2.0, part_append early.2.0 late.2.0 packets more early.2.2 late.2.2),
    )
