use Rattle.std.proofs.Common.{◌∙◌, rules, ap, sym, subst, List, ℕ, length}
use Rattle.std.specs.List.{remove}
use Rattle.std.specs.Prelude.{filter}
use Rattle.std.proofs.lemmas.Fn.{filter_same}
use Rattle.std.proofs.lemmas.List.Elements.{All-same, filter_passes}
use Rattle.mdns_debts.specs.Queries.{Query}
use Rattle.mdns_debts.specs.Following.{has_owed}
use Rattle.mdns_owing.specs.Owing.{moments_of}
use Rattle.mdns_owing.specs.Satisfied.{IsOwed, IsAlone, AreTold}
use Rattle.mdns_owing.specs.declared.satisfied.Satisfied.{Satisfied}
use Rattle.mdns_owing.proofs.Due.{each_stays}
use Rattle.mdns_owing.proofs.Told.{alone_removed, moments_removed}
use Rattle.mdns_owing.proofs.owing.drop_satisfied.Goals as goal

pub returns-in-Nobody-clause-queries : goal.returns-in-Nobody-clause-queries
returns-in-Nobody-clause-queries c =
    let queries : List Query = c.args.queries.now.items in
    sym (each_stays has_owed queries (subst (λ (satisfied : Satisfied). AreTold (length queries) satisfied queries) c.in-Nobody.is c.requires.satisfied))

pub returns-in-One-clause-queries : goal.returns-in-One-clause-queries
returns-in-One-clause-queries c =
    let queries : List Query = c.args.queries.now.items in
    let told : IsAlone (length queries) c.in-One.place queries = subst (λ (satisfied : Satisfied). AreTold (length queries) satisfied queries) c.in-One.is c.requires.satisfied in
    c.remove.ensures.items ∙ alone_removed queries c.in-One.place told.within told.gone told.others

pub returns-in-One-clause-kept : goal.returns-in-One-clause-kept
returns-in-One-clause-kept c =
    let queries : List Query = c.args.queries.now.items in
    record {
      owed = All-same IsOwed c.remove.new.self.items (filter has_owed queries) (returns-in-One-clause-queries c) (filter_passes has_owed queries);
      timed = c.remove-in-One.ensures.moments ∙ ap (λ (moments : List ℕ). remove moments c.in-One.place) c.requires.timed ∙ moments_removed queries c.in-One.place ∙ ap moments_of (sym c.remove.ensures.items);
    }

pub returns-in-Many-clause-queries : goal.returns-in-Many-clause-queries
returns-in-Many-clause-queries c = filter_same _ has_owed _ (λ x b f k. search rules) _ _ c.retain.ensures.filtered

pub returns-in-Many-clause-kept : goal.returns-in-Many-clause-kept
returns-in-Many-clause-kept c = record {
  owed = All-same IsOwed c.retain.new.self.items (filter has_owed c.args.queries.now.items) (returns-in-Many-clause-queries c) (filter_passes has_owed c.args.queries.now.items);
  timed = c.tell_all.ensures.moments ∙ ap moments_of c.as_slice.ensures.value;
}
