-- The job is added with its lane state.
use Rattle.job_table.proofs.Drafts.{add_ended, add_incoming, add_processing, add_waiting}
use Rattle.job_table.proofs.lane.draft.Draft.add.Goals as goal

pub returns-in-Ended-clause-draft : goal.returns-in-Ended-clause-draft
returns-in-Ended-clause-draft c = λ old new is was seated. add_ended old new c.args.job c.args.self.now is was c.args.lane_state seated c.in-Ended.is

pub returns-in-Incoming-clause-draft : goal.returns-in-Incoming-clause-draft
returns-in-Incoming-clause-draft c = λ old new is was seated. add_incoming old new c.args.job c.args.self.now is was c.args.lane_state seated c.in-Incoming.is

pub returns-in_ok-extend_from_slice-in-Waiting-clause-draft : goal.returns-in_ok-extend_from_slice-in-Waiting-clause-draft
returns-in_ok-extend_from_slice-in-Waiting-clause-draft c = λ old new is was seated.
    add_waiting old new c.args.job c.args.self.now is was c.args.lane_state seated c.in-Waiting.entry c.in-Waiting.is (c.requires.own c.in-Waiting.entry c.in-Waiting.is) c.extend_from_slice.new.self c.in_ok-extend_from_slice-in-Waiting.ensures.items

pub returns-in-Processing-clause-draft : goal.returns-in-Processing-clause-draft
returns-in-Processing-clause-draft c = λ old new is was seated. add_processing old new c.args.job c.args.self.now is was c.args.lane_state seated c.in-Processing.is (c.requires.alone c.in-Processing.is)
