use Rattle.std.proofs.Common.{inl}
use Rattle.fwd_workers.specs.declared.serve.Served.TheVariants as served
use Rattle.fwd_workers.proofs.Serving.{breaks-turn, reads-turn, sends-served, served-of}
use Rattle.fwd_workers.proofs.serve.serve_gathered.Goals as goal

pub returns-in-Err-clause-turn : goal.returns-in-Err-clause-turn
returns-in-Err-clause-turn g c =
    inl (breaks-turn c.args.session.now c.send.new.session (g.L.Link.calls c.args.link.now)
    (g.L.Link.calls c.send.new.link) c.in-Err.fault c.in-Err.ensures.failed)

pub returns-in-Err-clause-served : goal.returns-in-Err-clause-served
returns-in-Err-clause-served g c =
    served-of (served.Failed c.in-Err.fault) c.args.session.now c.send.new.session
    (g.L.Link.calls c.args.link.now) (g.L.Link.calls c.send.new.link)
    (breaks-turn c.args.session.now c.send.new.session (g.L.Link.calls c.args.link.now)
    (g.L.Link.calls c.send.new.link) c.in-Err.fault c.in-Err.ensures.failed)

pub returns-clause-turn : goal.returns-clause-turn
returns-clause-turn g c =
    let r = c.read.ensures.read in
    inl (reads-turn c.read.result c.args.session.now c.send.new.session c.read.new.session (g.L.Link.calls c.args.link.now)
    (g.L.Link.calls c.send.new.link) (g.L.Link.calls c.read.new.link) r.room r.answer c.in_default.ensures.sent r.calls r.some r.within r.comes)

pub returns-clause-served : goal.returns-clause-served
returns-clause-served g c =
    let r = c.read.ensures.read in
    served-of c.read.result c.args.session.now c.read.new.session
    (g.L.Link.calls c.args.link.now) (g.L.Link.calls c.read.new.link)
    (reads-turn c.read.result c.args.session.now c.send.new.session c.read.new.session (g.L.Link.calls c.args.link.now)
    (g.L.Link.calls c.send.new.link) (g.L.Link.calls c.read.new.link) r.room r.answer c.in_default.ensures.sent r.calls r.some r.within r.comes)

pub returns-then-takes_more-clause-served : goal.returns-then-takes_more-clause-served
returns-then-takes_more-clause-served g c =
    sends-served c.args.session.now c.send.new.session (g.L.Link.calls c.args.link.now)
    (g.L.Link.calls c.send.new.link) c.in_default.ensures.sent
