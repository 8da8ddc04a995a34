use Rattle.std.proofs.Common.{◌≡◌, ◌∙◌, ℕ, max, cond, Option, Some, ap, unwrap_or}
use Rattle.std.specs.Map.{lookup}
use Rattle.dns_record.specs.Records.{same}
use Rattle.mdns_owing.proofs.Listing.{listed_more}
use Rattle.mdns_owing.proofs.listed.list.Goals as goal

pub returns : goal.returns
returns c =
    let ttl : c.max.result ≡ max (unwrap_or (lookup (same c.args.rr.now) c.args.greatest.now.entries) 0) c.args.rr.now.ttl =
    c.max.ensures ∙ ap (λ n. max n c.args.rr.now.ttl) (c.unwrap_or-before.ensures ∙ ap (λ (o : Option ℕ). unwrap_or o 0) c.ttl_of.ensures) in
    λ own. listed_more own c.args.rr.now c.args.greatest.now.entries c.insert.new.self.entries
    (c.in_ok-insert.ensures.updates.0 own ∙ (λ i. cond (same (c.sought.ensures i) own) (Some (ttl i)) (lookup (same own) c.args.greatest.now.entries)))
