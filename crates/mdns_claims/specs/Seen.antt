-- What a deed is done with, in code.
use Rattle.mdns_happened.specs.Told.{told_by}
use Rattle.mdns_claims.specs.declared.doing.Means.{Means}
use Rattle.mdns_claims.specs.Planned as planned

-- what a deed is done with
abbrev pub means_in : Means → planned.Means
means_in means = record { moment = means.moment; announces = means.announces; told = told_by means.happened.now; marks = means.marks.now }
