-- The rights of clients of the IPP front: a row for each right, by the client's place.
use Rattle.std.specs.Prelude.{ℕ, Bool, true, false, ◌&&◌, nat_eq, List, codes, cond, Option, Some, None}
use Rattle.std.specs.List.{starts_with}
use Rattle.ipp_access.specs.declared.rights.Right.{Right}
use Rattle.ipp_access.specs.declared.rights.Right.TheVariants.{Print, Look, ChangeOwnJobs, ChangeAllJobs, ChangePrinter}
use Rattle.ipp_access.specs.declared.places.Place.{Place}
use Rattle.ipp_access.specs.declared.places.Place.TheVariants.{Network, Socket, Operators}

-- At the first two places nobody proves who it is. The permissions of the third socket are the proof.
abbrev pub may : Place → Right → Bool
may Operators right = true
may place Print = true
may place Look = true
may place ChangeOwnJobs = true
may place ChangeAllJobs = false
may place ChangePrinter = false

-- A job may be changed from a place at least as close to the system as its own.
abbrev pub reaches : Place → Place → Bool
reaches Operators other = true
reaches Socket Network = true
reaches Socket Socket = true
reaches Socket Operators = false
reaches Network Network = true
reaches Network Socket = false
reaches Network Operators = false

-- `named` is whether the user whom the client names owns the job. A job that did not come by the front has no place.
abbrev pub may_change : Place → Bool → Option Place → Bool
may_change Operators named job = true
may_change place named None = false
may_change place named (Some job) = named && reaches place job

-- The beginning of the tokens of jobs.
abbrev pub prefix : Place → List ℕ
prefix Network = codes "ipp-network-"
prefix Socket = codes "ipp-socket-"
prefix Operators = codes "ipp-operators-"

abbrev pub is_of : Place → List ℕ → Bool
is_of place token = starts_with nat_eq token (prefix place)

abbrev pub place_of : List ℕ → Option Place
place_of token = cond (is_of Network token) (Some Network) (cond (is_of Socket token) (Some Socket) (cond (is_of Operators token) (Some Operators) None))
