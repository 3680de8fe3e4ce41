use Rattle.front_texts.proofs.ReadBack.{job_rows}
use Rattle.front_texts.proofs.laws.job_rows_read_back.Goals as goal

pub returns : goal.returns
returns c = job_rows
