use Rattle.std.proofs.Common.{◌∙◌, Some, refl, sym, subst}
use Rattle.record_validation.specs.file_graph.Graph.{Graph}
use Rattle.record_validation.specs.file_graph.Units.{charge}
use Rattle.std.specs.Prelude.{◌≤◌}
use Rattle.change_plan.specs.First.{whole_of}
use Rattle.shared_area.proofs.MadeStore.{slot_stays}
use Rattle.shared_area.proofs.apply_laws.carried_out_change_is_made.Goals as goal

pub returns : goal.returns
returns c g s cs plan taken v new allowed spelled can whole first out =
    let lies = c.whole_change_lies_in_its_places.ensures in
    let law = c.whole_change_can_be_carried_out.ensures in
    let after = law.graph g s cs v.digests plan taken (Some v) new allowed spelled can.tidy whole out in
    record {
      opens = record {
        spelled = law.spelled g s cs v.digests plan taken (Some v) new allowed spelled can.tidy whole out;
        units = subst (λ (h : Graph). charge h ≤ g.units) (sym after) can.units;
      };
      graph_after = after;
      new_marks = c.carried_out_marks.ensures.put g s (whole_of plan taken (Some v)) new v out refl can.fits;
      touched = λ i its. law.touched g s cs v.digests i plan taken (Some v) new allowed spelled can.tidy whole out (sym (whole.inodes i) ∙ its);
      others = λ i none. slot_stays g s (whole_of plan taken (Some v)) new out i (sym (whole.inodes i) ∙ none);
      written_places = lies.written g s cs v.digests plan taken (Some v) new allowed spelled whole out first;
      kept_places = λ i its file. lies.kept g s cs v.digests i plan taken (Some v) new allowed spelled whole out its file;
      other_places = λ i none t k. lies.others g s cs v.digests i plan taken (Some v) new allowed spelled can.tidy whole out none t k;
    }
