-- What each study of a case answers.
use Rattle.obs_case.specs.Tables.{Tables}
use Rattle.obs_files.specs.declared.words.Study.{Study}
use Rattle.obs_files.specs.declared.words.Study.TheVariants.{Outages, Pairs, Stations}
use Rattle.obs_engine.specs.OutageReply.{outages_reply}
use Rattle.obs_engine.specs.PairReply.{pairs_reply}
use Rattle.obs_engine.specs.Replies.{Reply}
use Rattle.obs_engine.specs.StationReply.{stations_reply}

-- the reply to a case: what becomes of it where one branch goes out of service, which of its meters are critical together, or what
-- the loss of each station's meters does
abbrev pub study_reply : Study → Tables → Reply
study_reply Outages t = outages_reply t
study_reply Pairs t = pairs_reply t
study_reply Stations t = stations_reply t
