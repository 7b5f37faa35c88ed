use Rattle.message.proofs.Leads.{loaded_led, whole_compared}
use Rattle.message.proofs.compare_message.Goals as goal

pub returns : goal.returns
returns g c =
    let m = c.args.message.now in
    let key = c.args.key.now in
    let iv = c.args.iv.now in
    let r = g.M.Mode.chosen c.args.setup key in
    let loaded = c.load-mode.ensures in
    let taken = c.in_ok-absorb_whole.ensures in
    whole_compared r key iv m.header.now m.body.now _ _ _ _ _ (loaded_led r key iv m.header.now m.body.now _ _ _ loaded.rule loaded.state taken.2) taken.0 taken.1 c.compare.ensures
