use Rattle.sd_name.specs.ServiceTypes.{service_type}
use Rattle.sd_call.proofs.Forms.{few_subtypes}
use Rattle.sd_call.proofs.form.has_subtypes_up_to.Goals as goal

pub returns-in-Ok : goal.returns-in-Ok
returns-in-Ok c =
    few_subtypes c.in-Ok.regtype (service_type c.args.regtype.now) c.args.most c.subtype.result c.is_none.result (rw (← c.as_str.ensures.text) c.in-Ok.ensures.ok) c.subtype.ensures c.is_none.ensures
