-- The path is the text of its parts.
use Rattle.std.proofs.Common.{◌∙◌, ℕ, List, ap₂, codes, ◌++◌}
use Rattle.std.proofs.lemmas.Result.{IfOk-weaker}
use Rattle.std.specs.Fmt.{decimal}
use Rattle.spool_runtime.proofs.child_users.lock_path.Goals as goal

pub returns : goal.returns
returns c =
    IfOk-weaker c.format.result _ _ (λ path is. is ∙ ap₂ (λ (run : List ℕ) (user : List ℕ).
    c.args.root.now ++ (codes "/" ++ (run ++ (codes "/" ++ (user ++ (codes "-" ++ decimal c.args.uid))))))
    c.run_folder-run.ensures c.user_prefix-user.ensures) c.format.ensures.ok
