use Rattle.std.proofs.Common.{IfOk, Result, Ok, Err, sym, subst, ⊎_elim}
use Rattle.nm_command.specs.declared.view.View.{View}
use Rattle.nm_offline.specs.Shown.{ShowsView}
use Rattle.nm_offline.proofs.shown.view_text.Goals as goal

-- of what is made, if it is
any_text : {A E : Type 0} (r : Result A E) → IfOk r (λ x. Unit {0})
any_text (Ok x) = tt
any_text (Err e) = tt

of_text : {A E : Type 0} {P Q : A → Type 0} (r : Result A E) → ((x : A) → P x → Q x) → IfOk r P → IfOk r Q
of_text (Ok x) f h = f x h
of_text (Err e) f h = tt

pub returns-in-Tables : goal.returns-in-Tables
returns-in-Tables c = record {
  lines = c.report_text.ensures;
  shows = subst (λ v. IfOk c.report_text.result (λ text. ShowsView v c.args.network.now text.items)) (sym c.in-Tables.is) (any_text c.report_text.result);
}

pub returns-in-Values : goal.returns-in-Values
returns-in-Values c =
    let t = c.args.network.now in
    let m = c.in_ok-measured.ensures in
    record {
      lines = c.csv_text.ensures.lines;
      shows = subst (λ v. IfOk c.csv_text.result (λ text. ShowsView v t text.items)) (sym c.in-Values.is)
          (of_text c.csv_text.result (λ text h. record { events = m.events; over = m.over; has = h }) (c.csv_text.ensures.values t.stop m));
    }

pub returns-in-Rows : goal.returns-in-Rows
returns-in-Rows c =
    let t = c.args.network.now in
    let m = c.in_ok-measured.ensures in
    record {
      lines = c.rows_text.ensures.lines;
      shows = subst (λ v. IfOk c.rows_text.result (λ text. ShowsView v t text.items)) (sym c.in-Rows.is)
          (of_text c.rows_text.result (λ text h. record { events = m.events; over = m.over; has = h }) (c.rows_text.ensures.rows t.stop m));
    }

pub returns-in-Delays : goal.returns-in-Delays
returns-in-Delays c =
    let t = c.args.network.now in
    let m = c.in_ok-measured.ensures in
    record {
      lines = c.delays_text.ensures.lines;
      shows = subst (λ v. IfOk c.delays_text.result (λ text. ShowsView v t text.items)) (sym c.in-Delays.is)
          (of_text c.delays_text.result (λ text h. record { events = m.events; over = m.over; has = h }) (c.delays_text.ensures.rows t.stop m));
    }

pub returns : goal.returns
returns c = record {
  lines = c.load_text.ensures;
  shows = ⊎_elim
      (λ graph. subst (λ v. IfOk c.load_text.result (λ text. ShowsView v c.args.network.now text.items)) (sym graph) (any_text c.load_text.result))
      (λ load. subst (λ v. IfOk c.load_text.result (λ text. ShowsView v c.args.network.now text.items)) (sym load) (any_text c.load_text.result))
      c.in-Graph-view.is;
}
