use Rattle.sd_answer.proofs.Members.{one_name, of_its_name, of_one_name, nothing_unasked}
use Rattle.sd_answer.proofs.laws.only_matching_records_matter.Goals as goal

pub returns-clause-name : goal.returns-clause-name
returns-clause-name c = of_one_name

pub returns-clause-nothing : goal.returns-clause-nothing
returns-clause-nothing c = nothing_unasked

pub returns-clause-one : goal.returns-clause-one
returns-clause-one c = one_name

pub returns-clause-kept : goal.returns-clause-kept
returns-clause-kept c = of_its_name
