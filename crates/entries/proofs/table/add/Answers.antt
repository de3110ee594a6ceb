use Rattle.std.proofs.Common.{rules, sym, ap, ◌∙◌}
use Rattle.std.specs.Prelude.{slice_index_or, None}
use Rattle.entries.proofs.table.add.Goals as goal

pub returns-clause-ok : goal.returns-clause-ok
returns-clause-ok g c =
    let kept = ap (λ s. s.slots) c.reserve.ensures.rest_kept in
    let owner = c.in_ok-item.ensures.places in record {
      now = c.in_ok-item.item;
      vacant = sym (ap (λ l. slice_index_or l c.insert_reserved.result None) kept) ∙ c.insert_reserved.ensures.was_vacant;
      changed = c.insert_reserved.ensures.updates.changed;
      others = λ i differs. c.insert_reserved.ensures.updates.others i differs ∙ ap (λ l. slice_index_or l i None) kept;
      cloned = c.in_ok-item.ensures.message;
      places = search rules;
    }
