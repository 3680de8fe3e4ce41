use Rattle.std.proofs.Common.{refl}
use Rattle.front_words.proofs.commands.outline_of.Goals as goal

pub returns-in-Submit : goal.returns-in-Submit
returns-in-Submit c = rw c.in-Submit.is refl

pub returns-in-Status : goal.returns-in-Status
returns-in-Status c = rw c.in-Status.is refl

pub returns-in-Queues : goal.returns-in-Queues
returns-in-Queues c = rw c.in-Queues.is refl

pub returns-in-Watch : goal.returns-in-Watch
returns-in-Watch c = rw c.in-Watch.is refl

pub returns-in-Cancel : goal.returns-in-Cancel
returns-in-Cancel c = rw c.in-Cancel.is refl

pub returns-in-Hold : goal.returns-in-Hold
returns-in-Hold c = rw c.in-Hold.is refl

pub returns-in-Plain : goal.returns-in-Plain
returns-in-Plain c = rw c.in-Plain.is refl

pub returns-in-QueueShow : goal.returns-in-QueueShow
returns-in-QueueShow c = rw c.in-QueueShow.is refl

pub returns-in-QueueAdd : goal.returns-in-QueueAdd
returns-in-QueueAdd c = rw c.in-QueueAdd.is refl

pub returns-in-QueueSet : goal.returns-in-QueueSet
returns-in-QueueSet c = rw c.in-QueueSet.is refl

pub returns-in-QueueAccept : goal.returns-in-QueueAccept
returns-in-QueueAccept c = rw c.in-QueueAccept.is refl

pub returns-in-QueueReject : goal.returns-in-QueueReject
returns-in-QueueReject c = rw c.in-QueueReject.is refl

pub returns-in-QueueEnable : goal.returns-in-QueueEnable
returns-in-QueueEnable c = rw c.in-QueueEnable.is refl

pub returns-in-QueueDisable : goal.returns-in-QueueDisable
returns-in-QueueDisable c = rw c.in-QueueDisable.is refl

pub returns-in-Devices : goal.returns-in-Devices
returns-in-Devices c = rw c.in-Devices.is refl

pub returns-in-Check : goal.returns-in-Check
returns-in-Check c = rw c.in-Check.is refl

pub returns-in-Page : goal.returns-in-Page
returns-in-Page c = rw c.in-Page.is refl

pub returns-in-Say : goal.returns-in-Say
returns-in-Say c = rw c.in-Say.is refl

pub returns-in-Lp : goal.returns-in-Lp
returns-in-Lp c = rw c.in-Lp.is refl

pub returns-in-Lpr : goal.returns-in-Lpr
returns-in-Lpr c = rw c.in-Lpr.is refl

pub returns-in-Lpstat : goal.returns-in-Lpstat
returns-in-Lpstat c = rw c.in-Lpstat.is refl

pub returns-in-CancelJobs : goal.returns-in-CancelJobs
returns-in-CancelJobs c = rw c.in-CancelJobs.is refl

pub returns-in-Lpq : goal.returns-in-Lpq
returns-in-Lpq c = rw c.in-Lpq.is refl

pub returns-in-Lprm : goal.returns-in-Lprm
returns-in-Lprm c = rw c.in-Lprm.is refl

pub returns-in-Lpoptions : goal.returns-in-Lpoptions
returns-in-Lpoptions c = rw c.in-Lpoptions.is refl

pub returns-in-Lpmove : goal.returns-in-Lpmove
returns-in-Lpmove c = rw c.in-Lpmove.is refl

pub returns-in-CupsEnable : goal.returns-in-CupsEnable
returns-in-CupsEnable c = rw c.in-CupsEnable.is refl

pub returns-in-CupsDisable : goal.returns-in-CupsDisable
returns-in-CupsDisable c = rw c.in-CupsDisable.is refl

pub returns-in-CupsAccept : goal.returns-in-CupsAccept
returns-in-CupsAccept c = rw c.in-CupsAccept.is refl

pub returns-in-CupsReject : goal.returns-in-CupsReject
returns-in-CupsReject c = rw c.in-CupsReject.is refl

pub returns-in-Other : goal.returns-in-Other
returns-in-Other c = rw c.in-Other.is refl
