use Rattle.message.proofs.Leads.{calls_lead}
use Rattle.message.proofs.absorb_whole.Goals as goal

pub returns : goal.returns
returns g c =
    let m = g.M.Mode in
    let ch = c.in_ok-header.ensures in
    let cb = c.in_ok-body.ensures in (
      ch.0,
      cb.0,
      λ regs first. calls_lead (m.rule c.args.mode.now) _ _ _ _ regs c.args.message.now.header.now c.args.message.now.body.now _ _ _ _ _ _ _ _
          first c.absorb_part.ensures.rule c.absorb_part.ensures.state c.absorb_part-2.ensures.rule c.absorb_part-2.ensures.state ch.1 cb.1 c.length_block.ensures
          c.absorb.ensures.rule c.absorb.ensures.state c.fill_up.ensures.rule c.fill_up.ensures.state,
    )
