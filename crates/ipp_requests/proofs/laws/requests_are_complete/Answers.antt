use Rattle.ipp_requests.proofs.CheckLaws.{both_first, has_target, is_offered, known_charset, known_version, valid_number}
use Rattle.ipp_requests.proofs.laws.requests_are_complete.Goals as goal

pub returns-clause-version : goal.returns-clause-version
returns-clause-version c = known_version

pub returns-clause-number : goal.returns-clause-number
returns-clause-number c = valid_number

pub returns-clause-language : goal.returns-clause-language
returns-clause-language c = both_first

pub returns-clause-target : goal.returns-clause-target
returns-clause-target c = has_target

pub returns-clause-charset : goal.returns-clause-charset
returns-clause-charset c = known_charset

pub returns-clause-operation : goal.returns-clause-operation
returns-clause-operation c = is_offered
