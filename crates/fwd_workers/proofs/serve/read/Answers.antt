use Rattle.std.proofs.Common.{refl, ap, subst, arith, length, Ok, Err, ◌∷◌, [], ◌++◌, ◌≤◌, ◌∙◌}
use Rattle.fwd_environment.specs.declared.link.Read.TheVariants as read
use Rattle.fwd_environment.specs.Links.{read_into, count_read}
use Rattle.fwd_workers.proofs.serve.read.Goals as goal

pub returns-in-Ok-Bytes-clause-read : goal.returns-in-Ok-Bytes-clause-read
returns-in-Ok-Bytes-clause-read g c = record {
  room = c.read.new.room;
  answer = Ok (read.Bytes c.in-Ok-Bytes.count);
  calls = c.read.ensures.told ∙ ap (λ a. g.L.Link.calls c.args.link.now ++ read_into c.read.new.room a ∷ []) (c.in-Ok-Bytes.is ∙ ap Ok c.in-Ok-Bytes.field-0-is);
  some = omega arith;
  within = omega arith;
  comes = (subst (λ a. count_read a ≤ length c.read.new.room) (c.in-Ok-Bytes.is ∙ ap Ok c.in-Ok-Bytes.field-0-is) c.read.ensures.within, c.hear.ensures.heard);
}

pub returns-in-Ok-Nothing-clause-read : goal.returns-in-Ok-Nothing-clause-read
returns-in-Ok-Nothing-clause-read g c = record {
  room = c.read.new.room;
  answer = Ok read.Nothing;
  calls = c.read.ensures.told ∙ ap (λ a. g.L.Link.calls c.args.link.now ++ read_into c.read.new.room a ∷ []) (c.in-Ok-Nothing.is ∙ ap Ok c.in-Ok-Nothing.field-0-is);
  some = omega arith;
  within = omega arith;
  comes = (refl, refl);
}

pub returns-in-Ok-Closed-clause-read : goal.returns-in-Ok-Closed-clause-read
returns-in-Ok-Closed-clause-read g c = record {
  room = c.read.new.room;
  answer = Ok read.Closed;
  calls = c.read.ensures.told ∙ ap (λ a. g.L.Link.calls c.args.link.now ++ read_into c.read.new.room a ∷ []) (c.in-Ok-Closed.is ∙ ap Ok c.in-Ok-Closed.field-0-is);
  some = omega arith;
  within = omega arith;
  comes = (refl, refl);
}

pub returns-in-Err-clause-read : goal.returns-in-Err-clause-read
returns-in-Err-clause-read g c = record {
  room = c.read.new.room;
  answer = Err c.in-Err.fault;
  calls = c.read.ensures.told ∙ ap (λ a. g.L.Link.calls c.args.link.now ++ read_into c.read.new.room a ∷ []) c.in-Err.is;
  some = omega arith;
  within = omega arith;
  comes = (refl, refl);
}
