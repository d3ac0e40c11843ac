-- Who forgets knows no more.
use Rattle.std.proofs.Common.{◌≡◌, ℕ, Bool, true, false, cond, Option, Some, None, refl}
use Rattle.std.specs.Prelude.{◌==◌, not}
use Rattle.std.proofs.lemmas.Bool.{and_parts}
use Rattle.client_plan.specs.call_effects.Knowledge.{Knowledge, IsForgetful}
use Rattle.client_view.specs.KnowledgeChanges.{without_blocks, without_granted, without_inode}

kept : {X : Type 0} (gone : Bool) (o : Option X) (x : X) → cond gone None o ≡ Some x → o ≡ Some x
kept true o x is = absurd (cc)
kept false o x is = is

pub no_inode : (k : Knowledge) (i : ℕ) → IsForgetful k (without_inode k i)
no_inode k i = record {
  client = refl;
  own = λ number. refl;
  copies = record { nodes = λ j copy is. kept (j == i) (k.copies j) copy is; blocks = λ j b bytes is. kept (j == i) (k.blocks j b) bytes is };
  granted = λ j is. is;
}

pub no_blocks : (k : Knowledge) (i : ℕ) → IsForgetful k (without_blocks k i)
no_blocks k i = record {
  client = refl;
  own = λ number. refl;
  copies = record { nodes = λ j copy is. is; blocks = λ j b bytes is. kept (j == i) (k.blocks j b) bytes is };
  granted = λ j is. is;
}

pub no_number : (k : Knowledge) (n : ℕ) → IsForgetful k (without_granted k n)
no_number k n = record {
  client = refl;
  own = λ number. refl;
  copies = record { nodes = λ j copy is. is; blocks = λ j b bytes is. is };
  granted = λ j is. (and_parts (k.granted j) (not (j == n)) is).0;
}
