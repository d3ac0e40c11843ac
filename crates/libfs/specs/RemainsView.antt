-- What a client left that died, as its callers see it.
use Rattle.libfs.specs.declared.life.Life.{Life}
use Rattle.libfs.specs.View.{ClientView}

pub record RemainsView (M : Type 0) : Type 0 where
  pub client : ClientView M
  -- never Alive
  pub life : Life
