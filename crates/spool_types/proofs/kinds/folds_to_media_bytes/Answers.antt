-- The test of the bytes gives the same result as the test of the folded text.
use Rattle.std.proofs.Common.{rules, tests, sym, ◌∙◌}
use Rattle.std.proofs.lemmas.Iterator.{YieldsList-from_slice}
use Rattle.std.proofs.lemmas.Iterator.Search.{all_from_yields_List}
use Rattle.std.proofs.lemmas.List.Folds.{list_all-map}
use Rattle.std.specs.Char.{to_ascii_lowercase}
use Rattle.spool_types.specs.Values.{is_media_byte}
use Rattle.spool_types.proofs.kinds.folds_to_media_bytes.Goals as goal

pub returns : goal.returns
returns c =
    all_from_yields_List (λ b. is_media_byte (to_ascii_lowercase b)) _ _ _ c.all.ensures.ran
    (YieldsList-from_slice c.args.text.now cc) (λ x b q k. search (rules, tests))
    ∙ sym (list_all-map is_media_byte to_ascii_lowercase c.args.text.now)
