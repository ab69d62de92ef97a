use Rattle.fwd_session.proofs.Accepting.{each_accepts}
use Rattle.fwd_model.proofs.WayBack.{before_fault-stands, behind_fault-each}
use Rattle.fwd_model.proofs.laws.acknowledgement_before_fault_stands.Goals as goal

pub returns-clause-each : goal.returns-clause-each
returns-clause-each c s bytes = each_accepts s bytes

pub returns-clause-stands : goal.returns-clause-stands
returns-clause-stands c h o w a bytes l s f here at up first fault = before_fault-stands h o w a bytes l s f here at up first fault

pub returns-clause-later : goal.returns-clause-later
returns-clause-later c h o w i a bytes l m s f here at up has fault there = behind_fault-each h o w i a bytes l m s f here at up has fault there
