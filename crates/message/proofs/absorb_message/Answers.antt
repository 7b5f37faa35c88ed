use Rattle.message.proofs.Leads.{loaded_led}
use Rattle.message.proofs.absorb_message.Goals as goal

pub returns : goal.returns
returns g c =
    let m = c.args.message.now in
    let key = c.args.key.now in
    let iv = c.args.iv.now in
    let r = g.M.Mode.chosen c.args.setup key in
    let loaded = c.load-mode.ensures in
    let taken = c.in_ok-absorb_whole.ensures in
    (taken.0, taken.1, loaded_led r key iv m.header.now m.body.now _ _ _ loaded.rule loaded.state taken.2)
