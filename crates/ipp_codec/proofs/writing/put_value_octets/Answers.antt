use Rattle.ipp_codec.proofs.writing.put_value_octets.Goals as goal

pub returns-in-DateTime-clause-legal : goal.returns-in-DateTime-clause-legal
returns-in-DateTime-clause-legal c = rw c.in-DateTime.is c.put_date.ensures.legal

pub returns-in-Resolution-clause-written : goal.returns-in-Resolution-clause-written
returns-in-Resolution-clause-written c = rw c.in-Resolution.is c.put_resolution.ensures.written

pub returns-in-Resolution-clause-legal : goal.returns-in-Resolution-clause-legal
returns-in-Resolution-clause-legal c = rw c.in-Resolution.is c.put_resolution.ensures.legal
