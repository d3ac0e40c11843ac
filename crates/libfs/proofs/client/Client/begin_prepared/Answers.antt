use Rattle.std.proofs.Common.{rules, refl, inl}
use Rattle.libfs.proofs.client.Client.begin_prepared.Goals as goal

pub returns : goal.returns
returns g c = inl (
  refl,
  record {
    begun = _;
    is_begun = refl;
    entry_is = refl;
    made_is = refl;
    change_is = refl;
    reply_is = refl;
    turn = first_of (assumption, cc, search rules);
    log = first_of (assumption, cc, search rules);
    stage = first_of (assumption, cc, search rules);
    end = first_of (assumption, cc, search rules);
    media = first_of (assumption, cc, search rules);
    noted = first_of (assumption, cc, search rules);
    paid = first_of (assumption, cc, search rules);
    rest = first_of (assumption, cc, search rules);
  },
)
