use Rattle.std.proofs.Common.{◌++◌, ap, ◌∙◌}
use Rattle.nm_report.specs.Values.{all_values}
use Rattle.nm_report.proofs.Pieces.{ends_behind_whole}
use Rattle.nm_report.proofs.csv.csv_text.Goals as goal

pub returns-clause-lines : goal.returns-clause-lines
returns-clause-lines c =
    let front = c.in_ok-text.text.items in
    let mid = c.push_text.new.text.items in
    let with_ifaces = ends_behind_whole front c.in_ok-ifaces.ifaces.items mid (c.in_ok-push_text.ensures ∙ ap (λ l. front ++ l) c.as_slice.ensures.value) c.in_ok-text.ensures.ends c.in_ok-ifaces.ensures.ends in
    ends_behind_whole mid c.in_ok-sources.sources.items c.push_text-2.new.text.items (c.in_ok-push_text-2.ensures ∙ ap (λ l. mid ++ l) c.as_slice-2.ensures.value) with_ifaces c.in_ok-sources.ensures.ends

pub returns-clause-values : goal.returns-clause-values
returns-clause-values c = λ until m.
    let t = c.args.topology.now in
    let front = c.in_ok-text.text.items in
    let mid = c.push_text.new.text.items in
    let rest = c.in_ok-sources.sources.items in
    let values = all_values t m.events 0 t.ifaces in
    record {
      sources = rest;
      are = c.in_ok-sources.ensures.is until m;
      is = c.in_ok-push_text-2.ensures ∙ ap (λ l. mid ++ l) c.as_slice-2.ensures.value
          ∙ ap (λ l. l ++ rest) (c.in_ok-push_text.ensures ∙ ap (λ l. front ++ l) (c.as_slice.ensures.value ∙ c.in_ok-ifaces.ensures.is until m) ∙ ap (λ l. l ++ values) (c.in_ok-text.ensures.is until m));
    }
