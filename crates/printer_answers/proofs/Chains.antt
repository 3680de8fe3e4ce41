-- A chain is found exactly if there is a walk.
use Rattle.std.proofs.Common.{◌≡◌, Option, None, Some, refl}
use Rattle.std.specs.Prelude.{is_some}
use Rattle.std.specs.Option.{option_map}

pub is_chain : {A B C : Type 0} (f : A → C) (g : B → C) (found : Option A) (walk : Option B) → option_map f found ≡ option_map g walk → is_some found ≡ is_some walk
is_chain f g None None e = refl
is_chain f g None (Some w) e = absurd cc
is_chain f g (Some a) None e = absurd cc
is_chain f g (Some a) (Some w) e = refl
