use Rattle.luo_recipes.proofs.JobLemmas.{jobs_length, job_site}
use Rattle.luo_recipes.proofs.laws.sites_have_jobs.Goals as goal

pub returns : goal.returns
returns c p q = (jobs_length p q, job_site p q)
