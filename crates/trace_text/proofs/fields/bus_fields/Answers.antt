use Rattle.trace_text.proofs.fields.bus_fields.Goals as goal

pub returns-in_err-kind : goal.returns-in_err-kind
returns-in_err-kind c = rw c.from_residual-in_err-kind.ensures (λ f p.
    let is = p.3 in
    let some = c.in_ok-next.ensures in
    c.in_err-kind.ensures (f.1, f.2) (p.1, p.2, cc))
