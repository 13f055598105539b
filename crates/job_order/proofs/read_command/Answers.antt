-- `read_command` meets its contract: each byte is the command that the definition has there, or none.
use Rattle.std.proofs.Common.{◌∙◌, sym, arith, rules}
use Rattle.job_commands.specs.Stores.{lists_in}
use Rattle.job_order.proofs.Placing.{turn-on, turn-over, at_n, first_else, at_e, at_b, inside_else, at_r, between_else, at_p, p_full, at_z, z_some, after_else}
use Rattle.job_order.proofs.read_command.Goals as goal
use Rattle.job_order.proofs.read_command.Goals.{in_default-via-in-First+in_default, in_default-via-in-InRow+in_default, in_default-via-in-BetweenRows+in_default, in_default-via-in-AfterRows-eq80+else-p, in_default-via-in-AfterRows-eq90+else-named_none_or_all, in_default-via-in-AfterRows+in_default}

pub returns-in-First-eq78-clause-value : goal.returns-in-First-eq78-clause-value
returns-in-First-eq78-clause-value c =
    let s = lists_in c.args.stores.now in
    turn-on c.args.p s c.read_n.result _ (search rules) ∙ c.read_n.ensures.value s ∙ sym (at_n c.args.p s _ _ c.in-First-eq78.ensures c.in-First-eq78.is-1)

pub returns-in-InRow-eq69-clause-value : goal.returns-in-InRow-eq69-clause-value
returns-in-InRow-eq69-clause-value c =
    let at = c.in-InRow-eq69 in
    turn-on c.args.p _ c.read_e.result _ (search rules) ∙ c.read_e.ensures.value (lists_in c.args.stores.now) ∙ sym (at_e c.args.p (lists_in c.args.stores.now) _ _ at.ensures.0 at.ensures.1 at.is-1)

pub returns-in-InRow-eq66-clause-value : goal.returns-in-InRow-eq66-clause-value
returns-in-InRow-eq66-clause-value c =
    let at = c.in-InRow-eq66 in
    turn-on c.args.p _ c.read_b.result _ (search rules) ∙ c.read_b.ensures.value (lists_in c.args.stores.now) (omega arith) ∙ sym (at_b c.args.p (lists_in c.args.stores.now) _ _ at.ensures.0 at.ensures.1 at.is-1)

pub returns-in-BetweenRows-eq82-clause-value : goal.returns-in-BetweenRows-eq82-clause-value
returns-in-BetweenRows-eq82-clause-value c =
    let s = lists_in c.args.stores.now in
    let at = c.in-BetweenRows-eq82 in
    turn-on c.args.p s c.read_r.result _ (search rules) ∙ c.read_r.ensures.value s (omega arith)
    ∙ sym (at_r c.args.p s _ _ at.ensures.1 at.ensures.0 (omega arith) at.is-1)

pub returns-in-AfterRows-eq80-clause-value : goal.returns-in-AfterRows-eq80-clause-value
returns-in-AfterRows-eq80-clause-value c =
    let at = c.in-AfterRows-eq80 in
    turn-on c.args.p _ c.read_p.result _ (search rules) ∙ c.read_p.ensures.value (lists_in c.args.stores.now)
    ∙ sym (at_p c.args.p (lists_in c.args.stores.now) _ _ at.ensures.0 at.ensures.1 at.ensures.2 (omega arith) (omega arith) at.is-1 (search rules))

pub returns-in-AfterRows-eq90-clause-value : goal.returns-in-AfterRows-eq90-clause-value
returns-in-AfterRows-eq90-clause-value c =
    let s = lists_in c.args.stores.now in
    let at = c.in-AfterRows-eq90 in
    turn-over c.args.p s c.read_z.result _ (search rules) ∙ c.read_z.ensures s
    ∙ sym (at_z c.args.p s _ _ at.ensures.0 at.ensures.1 at.ensures.2 (omega arith) (omega arith) at.is-1 (search rules))

pub returns-in_default-clause-value : goal.returns-in_default-clause-value
returns-in_default-clause-value c =
    let s = lists_in c.args.stores.now in
    elim c.in_default.branch [
      | in_default-via-in-First+in_default w ↦ first_else c.args.p s _ _ w.in_default.ensures w.in_default.is-1.1
      | in_default-via-in-InRow+in_default w ↦
          inside_else c.args.p s _ _ w.in_default.ensures.0 w.in_default.ensures.1 w.in_default.is-1.0.1 w.in_default.is-1.1
      | in_default-via-in-BetweenRows+in_default w ↦ between_else c.args.p s _ _ w.in_default.ensures.1 w.in_default.ensures.0 (omega arith) w.in_default.is-1.1
      | in_default-via-in-AfterRows-eq80+else-p w ↦
          let at = w.in-AfterRows-eq80 in
          p_full c.args.p s _ _ at.ensures.0 at.ensures.1 at.ensures.2 (omega arith) (omega arith) at.is-1 (search rules)
      | in_default-via-in-AfterRows-eq90+else-named_none_or_all w ↦
          let at = w.in-AfterRows-eq90 in
          z_some c.args.p s _ _ at.ensures.0 at.ensures.1 at.ensures.2 (omega arith) (omega arith) at.is-1 (search rules)
      | in_default-via-in-AfterRows+in_default w ↦
          let at = w.in_default in
          after_else c.args.p s _ _ at.ensures.0 at.ensures.1 at.ensures.2 (omega arith) (omega arith) at.is-1.0.1 at.is-1.1
    ]
