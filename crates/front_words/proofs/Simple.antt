-- Each form's command is simple, so the values that clap finds are a function of the arguments.
use Rattle.std.proofs.Common.{◌≡◌, refl, true}
use Rattle.clap.specs.Words.{is_simple_and_free}
use Rattle.front_words.specs.Apps.{app_for}
use Rattle.front_words.specs.declared.forms.Form.{Form}
use Rattle.front_words.specs.declared.forms.Form.TheVariants as form_is

pub is_simple : (f : Form) → is_simple_and_free (app_for f) ≡ true
is_simple form_is.Submit = refl
is_simple form_is.Status = refl
is_simple form_is.Queues = refl
is_simple form_is.Watch = refl
is_simple form_is.Cancel = refl
is_simple form_is.Hold = refl
is_simple (form_is.Plain act) = refl
is_simple form_is.QueueShow = refl
is_simple form_is.QueueAdd = refl
is_simple form_is.QueueSet = refl
is_simple form_is.QueueAccept = refl
is_simple form_is.QueueReject = refl
is_simple form_is.QueueEnable = refl
is_simple form_is.QueueDisable = refl
is_simple form_is.Devices = refl
is_simple form_is.Check = refl
is_simple form_is.Page = refl
is_simple form_is.Say = refl
is_simple form_is.Lp = refl
is_simple form_is.Lpr = refl
is_simple form_is.Lpstat = refl
is_simple form_is.CancelJobs = refl
is_simple form_is.Lpq = refl
is_simple form_is.Lprm = refl
is_simple form_is.Lpoptions = refl
is_simple form_is.Lpmove = refl
is_simple form_is.CupsEnable = refl
is_simple form_is.CupsDisable = refl
is_simple form_is.CupsAccept = refl
is_simple form_is.CupsReject = refl
is_simple form_is.Other = refl
