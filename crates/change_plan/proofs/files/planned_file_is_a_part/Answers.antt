use Rattle.std.proofs.Common.{inl, inr}
use Rattle.change_plan.proofs.FileUses.{is_fit, listed, uses, once, all, imaged, images, nodes, is_laid, size, written}
use Rattle.change_plan.proofs.FileLost.{hold_lost}
use Rattle.change_plan.proofs.files.planned_file_is_a_part.Goals as goal

pub returns : goal.returns
returns c g s change touch i x m share bytes old new lost p = record {
  fit = is_fit g s change touch i x m share bytes old new lost p;
  listed = listed g s change touch i x m share bytes old new lost p;
  uses = uses g s change touch i x m share bytes old new lost p;
  once = λ t u j k b at here there. once g s change touch i x m share bytes old new lost p t u j k b here there;
  all = all g s change touch i x m share bytes old new lost p;
  imaged = imaged g s change touch i x m share bytes old new lost p;
  images = images g s change touch i x m share bytes old new lost p;
  nodes = nodes g s change touch i x m share bytes old new lost p;
  size = size g s change touch i x m share bytes old new lost p;
  given_up = hold_lost g s change touch i x m share bytes old new lost p;
  touched = inr p.touch_is;
  laid = is_laid g s change touch i x m share bytes old new lost p;
  written = λ after put. inl (written g s change touch i x m share bytes old new lost p after put);
}
