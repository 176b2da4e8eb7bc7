mod CutLogs
