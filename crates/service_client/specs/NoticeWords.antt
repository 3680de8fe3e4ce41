-- The meaning of a notice of the code.
use Rattle.service_client.specs.Notices.{Said, changed, job_gone, job_is, left_out, listed, other, queue_gone, queue_is, refused}
use Rattle.service_client.specs.declared.notices.Notice.{Notice}
use Rattle.service_client.specs.declared.notices.Notice.TheVariants as notices

abbrev pub said : Notice → Said
said (notices.JobIs number) = job_is number
said (notices.QueueIs name) = queue_is name.now
said (notices.JobGone number) = job_gone number
said (notices.QueueGone name) = queue_gone name.now
said notices.LeftOut = left_out
said notices.Listed = listed
said notices.Refused = refused
said (notices.Changed number) = changed number
said notices.Other = other
