-- What `--report` prints of the runs of a command: for each run its plan, its setting, its history line by line, and the greatest
-- number of batches that waited on each edge.
use Rattle.std.specs.Prelude.{ℕ, suc, List, [], ◌∷◌, ◌++◌, codes, decimal}
use Rattle.std.specs.List.{flat_map}
use Rattle.plan_machine.specs.declared.entry.Job.{Job}
use Rattle.plan_machine.specs.declared.entry.Job.TheVariants.{Emit, Fold, Seal, Stream, Close, Tail}
use Rattle.plan_machine.specs.declared.entry.Entry.{Entry}
use Rattle.plan_machine.specs.declared.entry.Entry.TheVariants.{Claim, Deliver, Pause, Resume, Finish, Stop, Fail}
use Rattle.run_report.specs.declared.record.PlanRun.{PlanRun}
use Rattle.run_report.specs.PlanTexts.{line, explain_text, stage_line}

abbrev pub job_word : Job → List ℕ
job_word Emit = codes "emit"
job_word Fold = codes "fold"
job_word Seal = codes "seal"
job_word Stream = codes "stream"
job_word Close = codes "close"
job_word Tail = codes "tail"

-- `claim WORKER NODE JOB BATCH`, `deliver WORKER`, `pause EDGE`, `resume EDGE`, `finish NODE`, `stop NODE`; a run that ended has
-- no `fail`
abbrev pub entry_line : Entry → List ℕ
entry_line (Claim worker node job batch) = line (codes "claim" ∷ decimal worker ∷ decimal node ∷ job_word job ∷ decimal batch ∷ [])
entry_line (Deliver worker) = line (codes "deliver" ∷ decimal worker ∷ [])
entry_line (Pause edge) = line (codes "pause" ∷ decimal edge ∷ [])
entry_line (Resume edge) = line (codes "resume" ∷ decimal edge ∷ [])
entry_line (Finish node) = line (codes "finish" ∷ decimal node ∷ [])
entry_line (Stop node) = line (codes "stop" ∷ decimal node ∷ [])
entry_line (Fail worker) = line (codes "fail" ∷ decimal worker ∷ [])

-- `batch B workers W pause P resume R`
abbrev pub setting_line : PlanRun → List ℕ
setting_line run =
    line (codes "batch" ∷ decimal run.batch ∷ codes "workers" ∷ decimal run.workers ∷ codes "pause" ∷ decimal run.pause ∷ codes "resume" ∷ decimal run.resume ∷ [])

-- `peak EDGE COUNT`
abbrev pub peak_line : ℕ → ℕ → List ℕ
peak_line edge count = line (codes "peak" ∷ decimal edge ∷ decimal count ∷ [])

-- the lines of peaks, the first of them of this edge
abbrev pub peak_lines : ℕ → List ℕ → List ℕ
peak_lines edge [] = []
peak_lines edge (count ∷ counts) = peak_line edge count ++ peak_lines (suc edge) counts

unfoldable pub run_text : PlanRun → List ℕ
run_text run = explain_text run.plan.nodes ++ setting_line run ++ flat_map entry_line run.history ++ peak_lines 1 run.peaks

-- runs one behind the other, the first of them with this number
abbrev pub runs_from : ℕ → List PlanRun → List ℕ
runs_from k [] = []
runs_from k (run ∷ runs) = stage_line k ++ run_text run ++ runs_from (suc k) runs

unfoldable pub report_text : List PlanRun → List ℕ
report_text runs = runs_from 1 runs
