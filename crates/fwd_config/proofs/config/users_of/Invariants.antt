use Rattle.std.proofs.Common.{◌≡◌, map, take}
use Rattle.fwd_config.specs.Configs.{user_of}
use Rattle.fwd_config.proofs.config.users_of.Given as goal

abbrev pub invariant-loop-user : goal.invariant-loop-user
invariant-loop-user l = l.list.items ≡ map user_of (take l.user-index l.users)
