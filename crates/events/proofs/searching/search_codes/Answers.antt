use Rattle.std.proofs.Common.{◌≡◌, length, Ok, sym, ap, ◌∙◌}
use Rattle.text.specs.Refusals.{◌then◌}
use Rattle.signature.specs.Outcomes.{signature_at, Left}
use Rattle.gauges.specs.Codes.{event_at}
use Rattle.gauges.specs.Tables.{held}
use Rattle.search.specs.Openings.{opening}
use Rattle.search.proofs.Searched.{granted}
use Rattle.events.specs.Searches.{searchable}
use Rattle.events.proofs.Plans.{plan_of, planned_search, search_value, search_sheet, search_signature, same_opening}
use Rattle.events.proofs.searching.search_codes.Goals as goal

pub returns : goal.returns
returns g c =
    let text = c.args.text.now in
    let xs = c.args.codes.now in
    let before = c.args.sheet.now in
    let s = c.read_signature.new.signature in
    let sets = held c.read_signature.new.gauge.table in
    let limit = g.E.Engine.LIMIT in
    let told = c.in_ok-read_signature.ensures in
    let (p, is) = plan_of (signature_at event_at text) _ told.value in
    let left : Left (Ok p) sets s = rw is at told.left in
    let q = opening limit (length xs) (length before) s in
    let whole : searchable limit text (length xs) (length before) ≡ (q then (λ _. Ok p)) =
    planned_search limit text (length xs) (length before) p is ∙ sym (ap (λ o. o then (λ _. Ok p)) (same_opening p s xs sets left limit (length xs) (length before))) in
    rw whole (record {
      value = c.search.ensures.value ∙ search_value p s xs sets left q;
      sheet = c.search.ensures.sheet ∙ search_sheet p s xs sets left q before;
      signature = search_signature p s xs sets left q (λ e. (granted limit (length xs) (length before) s (sym e)).1);
    })
