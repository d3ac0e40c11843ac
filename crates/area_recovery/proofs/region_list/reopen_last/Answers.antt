use Rattle.std.proofs.Common.{◌∙◌, ap, ◌++◌, option_to_list}
use Rattle.area_recovery.proofs.OpenedLists.{reopened, untouched}
use Rattle.area_recovery.proofs.region_list.reopen_last.Goals as goal

pub returns-in-Ok-clause-taken : goal.returns-in-Ok-clause-taken
returns-in-Ok-clause-taken g c =
    let e = c.in-Ok.ensures in
    record {
      medium = c.in-Some.medium;
      region = c.in-Ok.region;
      taken = c.pop.ensures.items ∙ ap (λ o. c.pop.new.self.items ++ option_to_list o) c.in-Some.is;
      put = c.put_first.ensures.items;
      reopened = reopened g.M.Media c.in-Some.medium c.in-Ok.region e.size e.idle e.resting e.foreign e.seen e.rests e.clock e.past e.quiet;
    }

pub returns-in-Err-clause-refused : goal.returns-in-Err-clause-refused
returns-in-Err-clause-refused g c =
    let e = c.in-Err.ensures in
    let d = c.denial.ensures in
    record {
      front = c.pop.new.self.items;
      medium = c.in-Some.medium;
      back = c.in-Err.medium;
      was = c.pop.ensures.items ∙ ap (λ o. c.pop.new.self.items ++ option_to_list o) c.in-Some.is;
      is = c.put_last.ensures.items;
      given_back = record { untouched = untouched g.M.Media c.in-Some.medium c.in-Err.medium e.back e.back_clock e.back_past e.faults; rests = e.back_rests };
      size = λ is. e.damaged.0 (d.size is);
      fault = λ is. e.fault (d.fault is);
      only = d.only e.only;
    }
